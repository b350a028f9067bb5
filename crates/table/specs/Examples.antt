-- Tables at their edges: bytes that no call writes, too few bytes, the largest generation.
use Rattle.std.specs.Prelude.{◌≡◌, true, [], ◌∷◌, ◌++◌, replicate, negsuc, refl, None, Some, Ok, Err}
use Rattle.model.specs.declared.Refusal.TheVariants.{Unreadable, NoSpace}
use Rattle.model.specs.Bytes.{bytes, number, signed}
use Rattle.word.specs.Place.{word_at, placed}
use Rattle.table.specs.Layout.{rules_in, zone_count, window_count, generation_in, counted, name_at, window_at, entries_from, zones_in, windows_in, lists_in}
use Rattle.table.specs.Left.{with_room, windows_left}

-- limits are held at 8 and 16, and a table of no bytes takes nothing
limits_held : rules_in (9 ∷ 255 ∷ []) ≡ record { zone_limit = 8; window_limit = 16 }
limits_held = refl

no_limits : rules_in [] ≡ record { zone_limit = 0; window_limit = 0 }
no_limits = refl

-- so are counts
zones_held : zone_count (0 ∷ 0 ∷ 9 ∷ 17 ∷ replicate 1036 0) ≡ 8
zones_held = refl

windows_held : window_count (0 ∷ 0 ∷ 9 ∷ 17 ∷ replicate 1036 0) ≡ 16
windows_held = refl

-- in a slice that is one byte too short nothing is counted
zones_short_lem : zone_count (8 ∷ 16 ∷ 1 ∷ 1 ∷ replicate 1035 0) ≡ 0
zones_short_lem = refl

windows_short_lem : window_count (8 ∷ 16 ∷ 1 ∷ 1 ∷ replicate 1035 0) ≡ 0
windows_short_lem = refl

-- no count, no entry
no_entries : lists_in (8 ∷ 16 ∷ 0 ∷ 0 ∷ []) ≡ record { zones = []; windows = [] }
unfolding zones_in windows_in entries_from
no_entries = refl

-- the generation after the largest is 0
wraps : generation_in (counted (0 ∷ 0 ∷ 0 ∷ 0 ∷ 255 ∷ 255 ∷ 255 ∷ 255 ∷ [])) ≡ 0
unfolding counted placed word_at number bytes
wraps = refl

-- any mark but 0 says that a window has an end
mark_of_5 : window_at (255 ∷ 255 ∷ 255 ∷ 255 ∷ 1 ∷ 0 ∷ 0 ∷ 0 ∷ 0 ∷ 0 ∷ 0 ∷ 0 ∷ 5 ∷ 7 ∷ 0 ∷ 0 ∷ 0 ∷ 0 ∷ 0 ∷ 0 ∷ 0 ∷ []) 0
    ≡ record { offset = negsuc 0; start = 1; until = Some 7 }
unfolding word_at number signed
mark_of_5 = refl

-- of a name of 255 bytes 64 are there
long_name : name_at (replicate 13 0 ++ (255 ∷ replicate 70 97)) 0 ≡ replicate 64 97
long_name = refl

-- room is tested last: a refusal stays what it is
room_last : with_room true (Err Unreadable) ≡ Err Unreadable
room_last = refl

room_short : with_room true (Ok tt) ≡ Err NoSpace
room_short = refl

-- windows without room, or that say nothing, change nothing
no_room_left : windows_left (Err NoSpace) (Some []) (1 ∷ 2 ∷ 3 ∷ 4 ∷ []) ≡ 1 ∷ 2 ∷ 3 ∷ 4 ∷ []
no_room_left = refl

unreadable_left : windows_left (Err Unreadable) None (1 ∷ 2 ∷ 3 ∷ 4 ∷ []) ≡ 1 ∷ 2 ∷ 3 ∷ 4 ∷ []
unreadable_left = refl
