-- The list store's calls: what they leave, answer and ask for; and calls with an output slice.
use Rattle.std.specs.Prelude.{true, List, [], ◌∷◌, ◌++◌, ◌≡◌, refl, ℕ, ◌-◌, ◌^◌, pos, replicate, None, Some}
use Rattle.model.specs.declared.Refusal.TheVariants.{Unreadable, ConstraintError, BadRecord}
use Rattle.model.specs.Basics.{run}
use Rattle.model.specs.Lists.{Lists, empty}
use Rattle.model.specs.Answers.{refused, answers, done, number_of, report, wake_timer, store_record, remove_record, TimeZone, DSTOffset}
use Rattle.model.specs.Rules.{allowed, device, demand, and_then, test_from, zone_rule, window_rule, test_zones, test_windows, accepted, turned_down}
use Rattle.model.specs.Bytes.{bytes, number, bits_of, signed, all_bytes, zones_bytes, windows_bytes, record_bytes, take_bytes, read_name, read_until, read_entry, read_all, read_zones, read_windows, read_record}
use Rattle.model.specs.History.{SetTimeZone, SetDSTOffset, Load, FactoryReset, verdict, after, lists_after}
use Rattle.model.specs.Store.{Store, new, record_of, set_time_zone, set_dst_offset, load, factory_reset}
use Rattle.model.specs.Output.{SizedCall, stored_by, no_space, after_sized}
use Rattle.model.specs.Table.{zone, windows, hour}
use Rattle.model.specs.Examples.Cases.{Gives, ◌gives◌}

abbrev store : Lists → ℕ → Store
store l generation = record { rules = device; lists = l; generation = generation }

-- ## Making one

made : new device ≡ answers (store empty 0)
unfolding new allowed
made = refl

not_made : Gives (λ r. number_of (new r)) (record { zone_limit = 0; window_limit = 2 } gives 8 ∷ record { zone_limit = 8; window_limit = 17 } gives 8 ∷ [])
unfolding new allowed
not_made = refl

-- ## A store with a window, at the last generation

abbrev summer : Lists
summer = windows (hour 1000 2000 ∷ [])

abbrev full : Store
full = store summer (2 ^ 32 - 1)

-- a refused SetDSTOffset leaves no windows and counts, and the count starts over; the timer is woken, nothing is stored or reported
refused_windows : set_dst_offset full (windows_bytes (hour 1000 1000 ∷ [])) ≡ record { state = store empty 0; answer = refused ConstraintError; effects = wake_timer ∷ [] }
unfolding set_dst_offset after windows_bytes all_bytes bytes bits_of read_windows read_all read_entry take_bytes read_until number signed demand and_then test_from window_rule test_windows
refused_windows = refl

-- an unreadable one changes nothing and wakes nobody
unreadable_windows : set_dst_offset full (1 ∷ []) ≡ record { state = full; answer = refused Unreadable; effects = [] }
unfolding set_dst_offset read_windows read_all read_entry take_bytes
unreadable_windows = refl

-- an empty list is accepted, with all effects
no_windows : set_dst_offset full (0 ∷ []) ≡ record { state = store empty 0; answer = done; effects = wake_timer ∷ store_record ∷ report DSTOffset ∷ [] }
unfolding set_dst_offset after read_windows read_all test_from test_windows
no_windows = refl

-- and what is stored is the record of what it leaves
no_windows_stored : record_of (set_dst_offset full (0 ∷ [])).state ≡ 0 ∷ 0 ∷ []
unfolding set_dst_offset record_of after read_windows read_all test_from test_windows record_bytes zones_bytes windows_bytes all_bytes
no_windows_stored = refl

-- a refused SetTimeZone changes nothing, the count included
refused_zones : set_time_zone full (zones_bytes (zone (pos 0) 5 ∷ [])) ≡ record { state = full; answer = refused ConstraintError; effects = [] }
unfolding set_time_zone verdict zones_bytes all_bytes bytes bits_of read_zones read_all read_entry take_bytes read_name number signed demand and_then test_from zone_rule test_zones
refused_zones = refl

-- an accepted one empties the windows, answers that offsets are required, and reports both lists
no_zones : set_time_zone full (0 ∷ [])
    ≡ record { state = store empty 0; answer = answers true; effects = wake_timer ∷ store_record ∷ report TimeZone ∷ report DSTOffset ∷ [] }
unfolding set_time_zone verdict after read_zones read_all test_from test_zones
no_zones = refl

-- factory reset: removed, then woken; nothing is reported
reset : factory_reset full ≡ record { state = store empty 0; answer = done; effects = remove_record ∷ wake_timer ∷ [] }
unfolding factory_reset after
reset = refl

-- a load counts nothing: no record leaves the lists, an empty one empties them, and one of no bytes is bad
load_nothing : load full None ≡ record { state = full; answer = done; effects = [] }
unfolding load verdict after
load_nothing = refl

load_empty : load full (Some (0 ∷ 0 ∷ [])) ≡ record { state = store empty (2 ^ 32 - 1); answer = done; effects = [] }
unfolding load verdict after read_record read_all and_then test_from test_zones test_windows
load_empty = refl

load_bad : load full (Some []) ≡ record { state = full; answer = refused BadRecord; effects = [] }
unfolding load verdict read_record
load_bad = refl

-- ## Verdicts

-- an unreadable entry decides before one that is at fault, whatever the limit
abbrev faulty_then_unreadable : List ℕ
faulty_then_unreadable = 2 ∷ replicate 12 0 ++ (1 ∷ replicate 8 0 ++ (9 ∷ []))

verdicts : Gives (verdict device)
    (SetDSTOffset faulty_then_unreadable gives turned_down Unreadable
    ∷ SetDSTOffset [] gives turned_down Unreadable
    ∷ Load (Some []) gives turned_down BadRecord
    ∷ Load None gives accepted
    ∷ FactoryReset gives accepted
    ∷ [])
unfolding verdict read_windows read_all read_entry take_bytes read_until read_record
verdicts = refl

-- a record with three zones is good for a store of eight and bad for one of two
abbrev three_zones : List ℕ
three_zones = record_bytes (record { zones = zone (pos 0) 0 ∷ zone (pos 0) 1 ∷ zone (pos 0) 2 ∷ []; windows = [] })

own_limits : Gives (λ zone_limit. verdict (record { zone_limit = zone_limit; window_limit = 1 }) (Load (Some three_zones))) (2 gives turned_down BadRecord ∷ 3 gives accepted ∷ [])
unfolding verdict record_bytes zones_bytes windows_bytes all_bytes bytes bits_of read_record read_all read_entry take_bytes read_name number signed demand and_then test_from zone_rule test_zones test_windows
own_limits = refl

-- ## A history, and one with output slices

-- zones empty the windows; then windows; then a faulty list empties them again
history : lists_after device
    (SetDSTOffset (windows_bytes (hour 1000 2000 ∷ []))
    ∷ SetTimeZone (zones_bytes (zone (pos 3600) 0 ∷ []))
    ∷ SetDSTOffset (windows_bytes (hour 1000 2000 ∷ []))
    ∷ SetDSTOffset (windows_bytes (hour 1000 1000 ∷ []))
    ∷ SetDSTOffset (9 ∷ [])
    ∷ [])
    ≡ record { zones = zone (pos 3600) 0 ∷ []; windows = [] }
unfolding run after zones_bytes windows_bytes all_bytes bytes bits_of read_zones read_windows read_all read_entry take_bytes read_name read_until number signed demand and_then test_from zone_rule window_rule test_zones test_windows
history = refl

-- an accepted empty list stores two bytes: one byte of room is too little and nothing changes; a refused list needs none
abbrev sized : List ℕ → ℕ → SizedCall
sized bytes room = record { call = SetDSTOffset bytes; room = room }

rooms : Gives (after_sized device summer)
    (sized (0 ∷ []) 1 gives summer ∷ sized (0 ∷ []) 2 gives empty ∷ sized (windows_bytes (hour 1000 1000 ∷ [])) 0 gives empty ∷ sized (1 ∷ []) 0 gives summer ∷ [])
unfolding after_sized no_space stored_by verdict after zones_bytes windows_bytes record_bytes all_bytes bytes bits_of read_windows read_all read_entry take_bytes read_until number signed demand and_then test_from window_rule test_windows
rooms = refl
