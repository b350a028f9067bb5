-- What the calls on a table say, and what they leave of it.
use Rattle.std.specs.Prelude.{ℕ, Bool, true, false, cond, ◌&&◌, List, [], length, nat_le, Option, None, Some, Result, Ok, Err}
use Rattle.model.specs.declared.Refusal.{Refusal}
use Rattle.model.specs.declared.Refusal.TheVariants as R
use Rattle.model.specs.Lists.{Zone, Window, Lists, empty}
use Rattle.model.specs.Bytes.{read_zones, read_windows, read_record}
use Rattle.model.specs.Rules.{Rules, allowed}
use Rattle.model.specs.History.{SetTimeZone, SetDSTOffset}
use Rattle.model.specs.Output.{no_space}
use Rattle.rules.specs.Verdicts.{zones_tested, windows_tested, record_tested}
use Rattle.table.specs.Layout.{table_size, zone_limit_in, window_limit_in, rules_in, lists_in, with_windows, with_lists, counted, new_table}

-- ## New

-- a table is made of enough bytes and of limits that a store can have
unfoldable pub makes : List ℕ → Rules → Bool
makes s r = nat_le table_size (length s) && allowed r

abbrev pub new_said : List ℕ → Rules → Result (Unit {0}) Refusal
new_said s r = cond (makes s r) (Ok tt) (Err R.BadLimits)

abbrev pub new_left : List ℕ → Rules → List ℕ
new_left s r = cond (makes s r) (new_table s r) s

-- ## What is said of a request, in `room` bytes for the record that an accepted one stores; the room is tested last

abbrev pub with_room : Bool → Result (Unit {0}) Refusal → Result (Unit {0}) Refusal
with_room short (Ok tt) = cond short (Err R.NoSpace) (Ok tt)
with_room short (Err cause) = Err cause

unfoldable pub time_zone_said : List ℕ → List ℕ → ℕ → Result (Unit {0}) Refusal
time_zone_said s request room =
    with_room (no_space (rules_in s) (lists_in s) (record { call = SetTimeZone request; room = room })) (zones_tested (zone_limit_in s) request)

unfoldable pub dst_offset_said : List ℕ → List ℕ → ℕ → Result (Unit {0}) Refusal
dst_offset_said s request room =
    with_room (no_space (rules_in s) (lists_in s) (record { call = SetDSTOffset request; room = room })) (windows_tested (window_limit_in s) request)

unfoldable pub load_said : List ℕ → List ℕ → Result (Unit {0}) Refusal
load_said s stored = record_tested (zone_limit_in s) (window_limit_in s) stored

-- ## What is left

-- SetTimeZone: the zones of an accepted request, no window, and one change counted; else nothing changes
abbrev pub zones_left : Result (Unit {0}) Refusal → Option (List Zone) → List ℕ → List ℕ
zones_left (Ok tt) None s = s
zones_left (Ok tt) (Some zs) s = counted (with_lists s (record { zones = zs; windows = [] }))
zones_left (Err cause) o s = s

unfoldable pub time_zone_left : List ℕ → List ℕ → ℕ → List ℕ
time_zone_left s request room = zones_left (time_zone_said s request room) (read_zones request) s

-- windows that were turned down for what they say leave none; an unreadable request and one without room change nothing
abbrev pub empties : Refusal → Bool
empties R.Unreadable = false
empties R.ConstraintError = true
empties R.ResourceExhausted = true
empties R.InvalidCommand = false
empties R.CommandNotFound = false
empties R.AttributeNotFound = false
empties R.BadRecord = false
empties R.BadLimits = false
empties R.NoSpace = false

-- SetDSTOffset: the windows of an accepted request, and one change counted
abbrev pub windows_left : Result (Unit {0}) Refusal → Option (List Window) → List ℕ → List ℕ
windows_left (Ok tt) None s = s
windows_left (Ok tt) (Some ws) s = counted (with_windows s ws)
windows_left (Err cause) o s = cond (empties cause) (counted (with_windows s [])) s

unfoldable pub dst_offset_left : List ℕ → List ℕ → ℕ → List ℕ
dst_offset_left s request room = windows_left (dst_offset_said s request room) (read_windows request) s

-- a load: both lists of an accepted record, and no change counted; else nothing changes
abbrev pub lists_left : Result (Unit {0}) Refusal → Option Lists → List ℕ → List ℕ
lists_left (Ok tt) None s = s
lists_left (Ok tt) (Some l) s = with_lists s l
lists_left (Err cause) o s = s

unfoldable pub load_left : List ℕ → List ℕ → List ℕ
load_left s stored = lists_left (load_said s stored) (read_record stored) s

-- factory reset: no entry, and one change counted
unfoldable pub reset_left : List ℕ → List ℕ
reset_left s = counted (with_lists s empty)
