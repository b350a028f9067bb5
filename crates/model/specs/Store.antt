-- The list store, `TimeZoneStore`: its calls, with what they leave, their answers and their effects.
use Rattle.std.specs.Prelude.{Bool, true, cond, List, [], ◌∷◌, ℕ, ◌+◌, ◌%◌, ◌^◌, Option, None, Some}
use Rattle.model.specs.declared.Refusal.TheVariants.{Unreadable, BadLimits}
use Rattle.model.specs.Basics.{run}
use Rattle.model.specs.Lists.{Window, Lists, empty}
use Rattle.model.specs.Answers.{Answer, refused, answers, done, report, wake_timer, store_record, remove_record, TimeZone, DSTOffset, Result, unchanged}
use Rattle.model.specs.Rules.{Rules, allowed, Verdict, accepted, turned_down, test_windows}
use Rattle.model.specs.Bytes.{record_bytes, read_windows}
use Rattle.model.specs.History.{Call, SetTimeZone, SetDSTOffset, Load, FactoryReset, verdict, after}

-- the limits it was made with, the lists, and the count of their changes
pub record Store : Type 0 where
  pub rules : Rules
  pub lists : Lists
  pub generation : ℕ

-- a new store has empty lists and generation 0; with limits that are not allowed nothing is made
unfoldable pub new : Rules → Answer Store
new r = cond (allowed r) (answers (record { rules = r; lists = empty; generation = 0 })) (refused BadLimits)

-- the generation counts in 32 bits, and starts over after the largest
abbrev pub next_generation : ℕ → ℕ
next_generation g = (g + 1) % 2 ^ 32

-- the store with what a call makes of its lists, and the generation as it was
abbrev pub with_lists : Store → Call → Store
with_lists s c = record { rules = s.rules; lists = after s.rules s.lists c; generation = s.generation }

-- the same, with one more change counted
abbrev pub changed_by : Store → Call → Store
changed_by s c = record { rules = s.rules; lists = after s.rules s.lists c; generation = next_generation s.generation }

-- the record to store: that of the lists as they now are
unfoldable pub record_of : Store → List ℕ
record_of s = record_bytes s.lists

-- ## SetTimeZone; accepted, it answers DSTOffsetRequired: true

abbrev pub time_zone_set : Store → List ℕ → Verdict → Result Store Bool
time_zone_set s bytes accepted =
    record {
      state = changed_by s (SetTimeZone bytes);
      answer = answers true;
      effects = wake_timer ∷ store_record ∷ report TimeZone ∷ report DSTOffset ∷ [];
    }
time_zone_set s bytes (turned_down cause) = unchanged s cause

unfoldable pub set_time_zone : Store → List ℕ → Result Store Bool
set_time_zone s bytes = time_zone_set s bytes (verdict s.rules (SetTimeZone bytes))

-- ## SetDSTOffset

-- readable windows: turned down or not, the lists change, the change is counted and the timer is woken; only accepted ones are stored and reported
abbrev pub windows_tested : Store → List ℕ → Verdict → Result Store (Unit {0})
windows_tested s bytes accepted =
    record {
      state = changed_by s (SetDSTOffset bytes);
      answer = done;
      effects = wake_timer ∷ store_record ∷ report DSTOffset ∷ [];
    }
windows_tested s bytes (turned_down cause) =
    record { state = changed_by s (SetDSTOffset bytes); answer = refused cause; effects = wake_timer ∷ [] }

-- an unreadable request changes nothing and wakes nobody
abbrev pub windows_read : Store → List ℕ → Option (List Window) → Result Store (Unit {0})
windows_read s bytes None = unchanged s Unreadable
windows_read s bytes (Some ws) = windows_tested s bytes (test_windows s.rules ws)

unfoldable pub set_dst_offset : Store → List ℕ → Result Store (Unit {0})
set_dst_offset s bytes = windows_read s bytes (read_windows bytes)

-- ## Load: no change is counted and nobody is woken

abbrev pub store_loaded : Store → Option (List ℕ) → Verdict → Result Store (Unit {0})
store_loaded s stored accepted = record { state = with_lists s (Load stored); answer = done; effects = [] }
store_loaded s stored (turned_down cause) = unchanged s cause

unfoldable pub load : Store → Option (List ℕ) → Result Store (Unit {0})
load s stored = store_loaded s stored (verdict s.rules (Load stored))

-- ## Factory reset: counted even where the lists were empty; the record is removed before the timer is woken

unfoldable pub factory_reset : Store → Result Store (Unit {0})
factory_reset s = record { state = changed_by s FactoryReset; answer = done; effects = remove_record ∷ wake_timer ∷ [] }

-- ## A history of calls on a store

-- the store that a call leaves
unfoldable pub store_after : Store → Call → Store
store_after s (SetTimeZone bytes) = (set_time_zone s bytes).state
store_after s (SetDSTOffset bytes) = (set_dst_offset s bytes).state
store_after s (Load stored) = (load s stored).state
store_after s FactoryReset = (factory_reset s).state

-- the store that a history leaves
abbrev pub store_from : Store → List Call → Store
store_from s cs = run store_after s cs
