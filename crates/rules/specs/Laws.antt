-- The answers are the model's verdicts on the calls, and what is tested is what the readers of `record` read.
use Rattle.std.specs.Prelude.{Bool, List, ◌≡◌, ◌↔◌, ℕ, Option, None, Some, Err}
use Rattle.model.specs.declared.Refusal.TheVariants.{Unreadable, BadRecord}
use Rattle.model.specs.Rules.{Rules}
use Rattle.model.specs.Bytes.{Front, read_zone, read_window}
use Rattle.model.specs.History.{SetTimeZone, SetDSTOffset, Load, verdict}
use Rattle.record.specs.Fronts.{zone_at, window_at, next_zone, next_window, section_at, zones_whole, windows_whole, record_at}
use Rattle.rules.specs.Numbers.{zone_passes, window_passes}
use Rattle.rules.specs.Verdicts.{verdict_of, zones_tested, windows_tested, record_tested}
use Rattle.rules.specs.Entries.{section_tested, lists_tested, end_tested, end_read}

-- the limit on windows plays no part in SetTimeZone, nor the limit on zones in SetDSTOffset: `zones_are_lem`, `windows_are_lem` and `records_are` in proofs/Agree.antt
abbrev pub ZonesAre : Type 0
ZonesAre = (r : Rules) (s : List ℕ) → zones_tested r.zone_limit s ≡ verdict_of (verdict r (SetTimeZone s))

abbrev pub WindowsAre : Type 0
WindowsAre = (r : Rules) (s : List ℕ) → windows_tested r.window_limit s ≡ verdict_of (verdict r (SetDSTOffset s))

abbrev pub RecordsAre : Type 0
RecordsAre = (r : Rules) (s : List ℕ) → record_tested r.zone_limit r.window_limit s ≡ verdict_of (verdict r (Load (Some s)))

-- ## What is tested is what is read: the proofs stand in proofs/Readers.antt

module _ {A E : Type 0} (read_one : List ℕ → Front A) (found_at : List ℕ → ℕ → Option E) (next_of : E → ℕ) (keeps : ℕ → Option E → E → Bool) where
  -- a section is tested exactly where it is read, and ends where it is read to end
  abbrev pub SectionsEnd : Type 0
  SectionsEnd = (limit : ℕ) (s : List ℕ) (at : ℕ) → end_tested (section_tested found_at next_of keeps limit s at) ≡ end_read (section_at read_one s at)

-- `zones_end`
abbrev pub ZonesEnd : Type 0
ZonesEnd = SectionsEnd read_zone zone_at next_zone zone_passes

-- `windows_end`
abbrev pub WindowsEnd : Type 0
WindowsEnd = SectionsEnd read_window window_at next_window (λ _ before w. window_passes before w)

-- Unreadable is said of a request exactly where it is not read: `zones_unread`
abbrev pub ZonesUnread : Type 0
ZonesUnread = (limit : ℕ) (s : List ℕ) → zones_tested limit s ≡ Err Unreadable ↔ zones_whole s ≡ None

-- `windows_unread`
abbrev pub WindowsUnread : Type 0
WindowsUnread = (limit : ℕ) (s : List ℕ) → windows_tested limit s ≡ Err Unreadable ↔ windows_whole s ≡ None

-- the lists of a record are tested exactly where it is read: `lists_unread`
abbrev pub ListsUnread : Type 0
ListsUnread = (zones windows : ℕ) (s : List ℕ) → lists_tested zones windows s ≡ None ↔ record_at s ≡ None

-- a stored record that is not read is a bad one: `record_unread`
abbrev pub RecordUnread : Type 0
RecordUnread = (zones windows : ℕ) (s : List ℕ) → record_at s ≡ None → record_tested zones windows s ≡ Err BadRecord
