-- What a returned number tells: the refusal and the kinds of the effects come back from it. The proofs stand in proofs/CodeLaws.antt but for the last.
use Rattle.std.specs.Prelude.{false, cond, List, [], ◌∷◌, map, ◌≡◌, ℕ, suc, ◌%◌, ◌^◌, ◌≤◌, ◌<◌, eqb, pos, length, get_or, Option, None, Some, slice_get}
use Rattle.model.specs.declared.Refusal.{Refusal}
use Rattle.model.specs.declared.TimeGranularity.{TimeGranularity}
use Rattle.model.specs.declared.TimeSource.{TimeSource}
use Rattle.model.specs.Numbers.{refusal_of}
use Rattle.model.specs.Bytes.{bytes}
use Rattle.model.specs.Answers.{Answer, refused, answers, number_of, Attribute, UTCTime, Granularity, TrustedTimeSource, TimeZone, DSTOffset, Event, DSTTableEmpty, DSTStatus, TimeZoneStatus, TimeFailure, MissingTrustedTimeSource, TrustedSource, Effect, report, emit, wake_timer, wake_client, store_record, remove_record, store_moment, remove_moment, store_source, remove_source}
use Rattle.model.specs.Codes.{effect_code, returned}
use Rattle.model.specs.Lists.{Lists}
use Rattle.model.specs.Clock.{Clock, Reading, set_utc_time, set_utc_time_persist}
use Rattle.model.specs.Handler as H
use Rattle.model.specs.Handler.{Device, Named}
use Rattle.model.specs.Timer.{Timer, look}
use Rattle.model.specs.Retries.{Client, Outcome, attempt}

-- ## Kinds: an effect, and an event, without what it carries

abbrev pub event_kind : Event → Event
event_kind DSTTableEmpty = DSTTableEmpty
event_kind (DSTStatus active) = DSTStatus false
event_kind (TimeZoneStatus offset name) = TimeZoneStatus (pos 0) None
event_kind TimeFailure = TimeFailure
event_kind MissingTrustedTimeSource = MissingTrustedTimeSource

abbrev pub kind_of : Effect → Effect
kind_of (report a) = report a
kind_of (emit e) = emit (event_kind e)
kind_of wake_timer = wake_timer
kind_of wake_client = wake_client
kind_of store_record = store_record
kind_of remove_record = remove_record
kind_of (store_moment moment) = store_moment 0
kind_of remove_moment = remove_moment
kind_of (store_source source) = store_source (record { fabric = 0; node = 0; endpoint = 0 })
kind_of remove_source = remove_source

-- every kind
abbrev pub kinds : List Effect
kinds =
    report UTCTime ∷ report Granularity ∷ report Attribute.TimeSource ∷ report TrustedTimeSource ∷ report TimeZone ∷ report DSTOffset
    ∷ emit DSTTableEmpty ∷ emit (DSTStatus false) ∷ emit (TimeZoneStatus (pos 0) None) ∷ emit TimeFailure ∷ emit MissingTrustedTimeSource
    ∷ wake_timer ∷ wake_client ∷ store_record ∷ remove_record ∷ store_moment 0 ∷ remove_moment
    ∷ store_source (record { fabric = 0; node = 0; endpoint = 0 }) ∷ remove_source ∷ []

-- the first of some kinds whose code a number is
unfoldable pub with_code : ℕ → List Effect → Option Effect
with_code n [] = None
with_code n (k ∷ ks) = cond (eqb (effect_code k) n) (Some k) (with_code n ks)

-- the kind whose code a number is; none for a number that is no code
abbrev pub kind_named : ℕ → Option Effect
kind_named n = with_code n kinds

-- ## Effect codes are different, fit a byte and are never 0: `codes_tell`

pub record CodesTell : Type 0 where
  pub different : (a b : Effect) → effect_code a ≡ effect_code b → kind_of a ≡ kind_of b
  pub fit : (e : Effect) → effect_code e < 256
  pub never0 : (e : Effect) → 0 < effect_code e

-- ## What a caller reads off a returned number, as TIMESYNC_ANSWER and TIMESYNC_EFFECT of the header do

-- the refusal that the lowest byte names; none where the call was taken
abbrev pub refusal_in : ℕ → Option Refusal
refusal_in r = refusal_of (r % 256)

-- the code of the effect with an index, a byte each above the lowest; 0 where there is no such effect
abbrev pub code_in : ℕ → ℕ → ℕ
code_in r i = get_or (bytes 8 r) (suc i) 0

-- the refusal of an answer, if it is one
abbrev pub refusal_of_answer : {A : Type 0} → Answer A → Option Refusal
refusal_of_answer (refused cause) = Some cause
refusal_of_answer (answers a) = None

-- the returned number has 64 bits, and gives back the refusal and the kind of each effect, in order
pub record GivesBack {A : Type 0} (a : Answer A) (es : List Effect) : Type 0 where
  pub fits : returned (number_of a) es < 2 ^ 64
  pub refusal : refusal_in (returned (number_of a) es) ≡ refusal_of_answer a
  pub kind : (i : ℕ) → kind_named (code_in (returned (number_of a) es) i) ≡ slice_get (map kind_of es) i

-- up to seven effects: `returned_gives_back`
abbrev pub ReturnedGivesBack : Type 1
ReturnedGivesBack = (A : Type 0) (a : Answer A) (es : List Effect) → length es ≤ 7 → GivesBack a es

-- ## No call asks for more than four effects: `few_effects` in proofs/FewEffects.antt

pub record FewEffects : Type 0 where
  pub set_utc_time_command : (d : Device) (utc granularity : ℕ) (source : Option ℕ) (tick : ℕ) → length (H.set_utc_time_command d utc granularity source tick).effects ≤ 4
  pub set_source : (d : Device) (fabric : ℕ) (named : Option Named) → length (H.set_trusted_time_source d fabric named).effects ≤ 4
  pub set_time_zone : (d : Device) (request : List ℕ) → length (H.set_time_zone d request).effects ≤ 4
  pub set_dst_offset : (d : Device) (request : List ℕ) → length (H.set_dst_offset d request).effects ≤ 4
  pub load_lists : (d : Device) (stored : Option (List ℕ)) → length (H.load_lists d stored).effects ≤ 4
  pub reset_lists : (d : Device) → length (H.reset_lists d).effects ≤ 4
  pub load_clock : (build : ℕ) (d : Device) (moment : Option ℕ) (source : Option TrustedSource) → length (H.load_clock build d moment source).effects ≤ 4
  pub reset_clock : (build : ℕ) (d : Device) → length (H.reset_clock build d).effects ≤ 4
  pub set : (c : Clock) (utc : ℕ) (g : TimeGranularity) (s : TimeSource) (tick : ℕ) → length (set_utc_time c utc g s tick).effects ≤ 4
  pub set_persist : (c : Clock) (utc : ℕ) (g : TimeGranularity) (s : TimeSource) (tick : ℕ) → length (set_utc_time_persist c utc g s tick).effects ≤ 4
  pub look : (timer : Timer) (lists : Option Lists) (reading : Reading) → length (look timer lists reading).events ≤ 4
  pub attempt : (c : Client) (k : Clock) (outcome : Outcome) (tick : ℕ) → length (attempt c k outcome tick).effects ≤ 4
