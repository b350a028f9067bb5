-- What is said of a request and of a stored record, from its bytes.
use Rattle.std.specs.Prelude.{List, ℕ, Option, None, Some, Result, Ok, Err}
use Rattle.model.specs.declared.Refusal.{Refusal}
use Rattle.model.specs.declared.Refusal.TheVariants.{Unreadable}
use Rattle.model.specs.Rules as M
use Rattle.model.specs.Rules.{test_from, zone_rule, window_rule}
use Rattle.model.specs.Bytes.{read_zones, read_windows}
use Rattle.model.specs.History.{Load, verdict}

-- the enum's value for a verdict
abbrev pub verdict_of : M.Verdict → Result (Unit {0}) Refusal
verdict_of M.accepted = (Ok tt)
verdict_of (M.turned_down cause) = Err cause

module _ {A : Type 0} (limit : ℕ) (rule : ℕ → Option A → A → M.Verdict) where
  -- the verdict on what was read: entry by entry, where it is readable
  abbrev pub list_verdict : Option (List A) → M.Verdict
  list_verdict None = M.turned_down Unreadable
  list_verdict (Some xs) = test_from limit rule 0 None xs

-- what SetTimeZone says of a request, where a store takes so many zones
unfoldable pub zones_tested : ℕ → List ℕ → Result (Unit {0}) Refusal
zones_tested limit s = verdict_of (list_verdict limit zone_rule (read_zones s))

-- what SetDSTOffset says of a request, where a store takes so many windows
unfoldable pub windows_tested : ℕ → List ℕ → Result (Unit {0}) Refusal
windows_tested limit s = verdict_of (list_verdict limit window_rule (read_windows s))

-- what is said of a stored record, where a store takes so many zones and so many windows
unfoldable pub record_tested : ℕ → ℕ → List ℕ → Result (Unit {0}) Refusal
record_tested zones windows s = verdict_of (verdict (record { zone_limit = zones; window_limit = windows }) (Load (Some s)))
