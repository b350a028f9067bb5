-- What the list calls make of the lists, one call at a time and over a whole history.
use Rattle.std.specs.Prelude.{List, [], ℕ, Option, None, Some}
use Rattle.model.specs.declared.Refusal.TheVariants.{Unreadable, BadRecord}
use Rattle.model.specs.Basics.{run}
use Rattle.model.specs.Lists.{Zone, Window, Lists, empty}
use Rattle.model.specs.Rules.{Rules, Verdict, accepted, turned_down, and_then, test_zones, test_windows}
use Rattle.model.specs.Bytes.{read_zones, read_windows, read_record}

-- a call on the lists, with the bytes of its argument as they came, readable or not
pub data Call : Type 0 where
  SetTimeZone : List ℕ → Call
  SetDSTOffset : List ℕ → Call
  -- the stored record's bytes, or that there is no record
  Load : Option (List ℕ) → Call
  FactoryReset : Call

-- ## Which calls are taken

-- a section is read whole before any entry is tested, so Unreadable comes before the rules' causes
abbrev pub zones_verdict : Rules → Option (List Zone) → Verdict
zones_verdict r None = turned_down Unreadable
zones_verdict r (Some zs) = test_zones r zs

abbrev pub windows_verdict : Rules → Option (List Window) → Verdict
windows_verdict r None = turned_down Unreadable
windows_verdict r (Some ws) = test_windows r ws

-- whatever the cause, a stored record that is turned down is a bad record
abbrev pub as_bad_record : Verdict → Verdict
as_bad_record accepted = accepted
as_bad_record (turned_down cause) = turned_down BadRecord

-- a stored record is taken where it is readable and the commands would accept both its lists
abbrev pub record_verdict : Rules → Option Lists → Verdict
record_verdict r None = turned_down BadRecord
record_verdict r (Some l) = as_bad_record (and_then (test_zones r l.zones) (test_windows r l.windows))

-- having no record is no fault
abbrev pub load_verdict : Rules → Option (List ℕ) → Verdict
load_verdict r None = accepted
load_verdict r (Some bytes) = record_verdict r (read_record bytes)

unfoldable pub verdict : Rules → Call → Verdict
verdict r (SetTimeZone bytes) = zones_verdict r (read_zones bytes)
verdict r (SetDSTOffset bytes) = windows_verdict r (read_windows bytes)
verdict r (Load stored) = load_verdict r stored
verdict r FactoryReset = accepted

-- ## What a call makes of the lists

module _ {A : Type 0} where
  -- one value where a verdict accepts, another where it does not
  abbrev pub if_accepted : Verdict → A → A → A
  if_accepted accepted new old = new
  if_accepted (turned_down cause) new old = old

-- SetTimeZone: an accepted list replaces the zones and empties the windows; a refusal changes nothing
abbrev pub zones_set : Rules → Lists → Option (List Zone) → Lists
zones_set r l None = l
zones_set r l (Some zs) = if_accepted (test_zones r zs) (record { zones = zs; windows = [] }) l

-- SetDSTOffset: an accepted list replaces the windows, a readable one that is turned down empties them, an unreadable one changes nothing
abbrev pub windows_set : Rules → Lists → Option (List Window) → Lists
windows_set r l None = l
windows_set r l (Some ws) = record { zones = l.zones; windows = if_accepted (test_windows r ws) ws [] }

-- loading a record: good lists replace both; a bad record changes nothing
abbrev pub record_loaded : Rules → Lists → Option Lists → Lists
record_loaded r l None = l
record_loaded r l (Some new) = if_accepted (record_verdict r (Some new)) new l

-- loading: with no record the lists stay
abbrev pub loaded : Rules → Lists → Option (List ℕ) → Lists
loaded r l None = l
loaded r l (Some bytes) = record_loaded r l (read_record bytes)

-- the lists after one call
unfoldable pub after : Rules → Lists → Call → Lists
after r l (SetTimeZone bytes) = zones_set r l (read_zones bytes)
after r l (SetDSTOffset bytes) = windows_set r l (read_windows bytes)
after r l (Load stored) = loaded r l stored
after r l FactoryReset = empty

-- ## What a history makes of the lists

-- in a new store both lists are empty, and each call acts on what the one before left
abbrev pub lists_after : Rules → List Call → Lists
lists_after r cs = run (after r) empty cs
