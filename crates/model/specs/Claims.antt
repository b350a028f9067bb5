-- What else holds of the definitions.
use Rattle.std.specs.Prelude.{◌≡◌, ℕ, ◌≤◌, length, Option, Some}
use Rattle.model.specs.declared.TimeGranularity.{TimeGranularity}
use Rattle.model.specs.declared.TimeSource.{TimeSource}
use Rattle.model.specs.declared.Refusal.{Refusal}
use Rattle.model.specs.Basics.{top}
use Rattle.model.specs.Numbers.{granularity_number, granularity_of, source_number, source_of, refusal_number, refusal_of}
use Rattle.model.specs.Lists.{Lists}
use Rattle.model.specs.Answers.{Answer, refused, answers}
use Rattle.model.specs.Rules.{Rules, Verdict, accepted, turned_down, test_windows}
use Rattle.model.specs.Lookups.{active_windows, active_window, last_active_window}
use Rattle.model.specs.History.{Call, SetTimeZone, SetDSTOffset, Load, FactoryReset, verdict}
use Rattle.model.specs.Store.{Store, set_time_zone, set_dst_offset, load, factory_reset}
use Rattle.model.specs.Clock.{Clock, Reading, reliable, last_known, reading}
use Rattle.model.specs.LocalTime.{local_time}

-- ## A number names what has it: `numbers_back` in proofs/NumbersBack.antt

pub record NumbersBack : Type 0 where
  pub granularity : (g : TimeGranularity) → granularity_of (granularity_number g) ≡ Some g
  pub source : (s : TimeSource) → source_of (source_number s) ≡ Some s
  pub refusal : (r : Refusal) → refusal_of (refusal_number r) ≡ Some r

-- ## A store's call answers what the rules say of its argument: `answers_verdict` in proofs/Verdicts.antt

abbrev pub verdict_of : {A : Type 0} → Answer A → Verdict
verdict_of (refused cause) = turned_down cause
verdict_of (answers a) = accepted

abbrev pub answered : Store → Call → Verdict
answered s (SetTimeZone b) = verdict_of (set_time_zone s b).answer
answered s (SetDSTOffset b) = verdict_of (set_dst_offset s b).answer
answered s (Load stored) = verdict_of (load s stored).answer
answered s FactoryReset = verdict_of (factory_reset s).answer

abbrev pub AnswersVerdict : Type 0
AnswersVerdict = (s : Store) (c : Call) → answered s c ≡ verdict s.rules c

-- ## On accepted windows at most one is active, so the first is the last: `at_most_one` in proofs/Windows.antt

pub record OneActive (l : Lists) (now : ℕ) : Type 0 where
  pub few : length (active_windows l now) ≤ 1
  pub same : active_window l now ≡ last_active_window l now

abbrev pub AtMostOneActive : Type 0
AtMostOneActive = (r : Rules) (l : Lists) (now : ℕ) → test_windows r l.windows ≡ accepted → OneActive l now

-- ## A LocalTime that is shown lies in range: `local_in_range` in proofs/Range.antt

abbrev pub LocalInRange : Type 0
LocalInRange = (r : Reading) (lists : Option Lists) (t : ℕ) → local_time r lists ≡ answers (Some t) → t ≤ top

-- ## A clock that is let run never reads less at a later tick: `never_back` in proofs/Range.antt

-- both readings are reliable and the second is not before the first, or both are the same last known moment
abbrev pub NotBefore : Reading → Reading → Type 0
NotBefore (reliable a) (reliable b) = a ≤ b
NotBefore (reliable a) (last_known b) = ⊥
NotBefore (last_known a) (reliable b) = ⊥
NotBefore (last_known a) (last_known b) = a ≡ b

abbrev pub NeverBack : Type 0
NeverBack = (c : Clock) (t u : ℕ) → t ≤ u → NotBefore (reading c t) (reading c u)
