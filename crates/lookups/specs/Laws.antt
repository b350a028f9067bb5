-- What is shown of a table is what is defined on its lists; the proofs stand in proofs/.
use Rattle.std.specs.Prelude.{List, ◌≡◌, ℕ, suc, ◌+◌, ◌≤◌, take, drop, Option, option_map, IfSome}
use Rattle.model.specs.Lists.{Name, Zone, Window}
use Rattle.model.specs.Lookups as L
use Rattle.model.specs.Walk.{walk}
use Rattle.table.specs.Layout.{table_size, lists_in}
use Rattle.lookups.specs.declared.ZoneShown.{ZoneShown}
use Rattle.lookups.specs.declared.DSTOffsetEntry.{DSTOffsetEntry}
use Rattle.lookups.specs.Shown.{shown_by, active_index, zone_listed_in, window_listed_in}
use Rattle.lookups.specs.Transitions.{walk_owned}

-- ## What the answers stand for

-- the name that is shown, out of the table
abbrev pub shown_name : List ℕ → ZoneShown → Option Name
shown_name s z = option_map (λ p. take p.len (drop p.at s)) z.name

abbrev pub zone_now_in : List ℕ → ZoneShown → L.ZoneNow
zone_now_in s z = record { offset = z.offset; name = shown_name s z }

abbrev pub zone_in : List ℕ → ZoneShown → Zone
zone_in s z = record { offset = z.offset; start = z.valid_at; name = shown_name s z }

abbrev pub zone_listed_of : List ℕ → Option ZoneShown → Option Zone
zone_listed_of s r = option_map (zone_in s) r

abbrev pub window_of : DSTOffsetEntry → Window
window_of w = record { offset = w.offset; start = w.valid_starting; until = w.valid_until }

abbrev pub window_listed_of : Option DSTOffsetEntry → Option Window
window_listed_of r = option_map window_of r

-- a name that is shown ends inside a table, and is no longer than the longest name
abbrev pub EndsInside : ZoneShown → Type 0
EndsInside z = IfSome z.name (λ p. (p.at + p.len ≤ table_size) × (p.len ≤ 64))

-- ## Laws

-- `active_shown`: what is shown of the active zone is the active zone of the lists
abbrev pub ActiveShown : Type 0
ActiveShown = (s : List ℕ) (now : ℕ) → zone_now_in s (shown_by s (active_index s now)) ≡ L.active_zone (lists_in s) now

-- `zone_listed_lem`: the listed zone at an index is that of the lists
abbrev pub ZoneListedMeans : Type 0
ZoneListedMeans = (s : List ℕ) (i : ℕ) → zone_listed_of s (zone_listed_in s i) ≡ L.zone_at (lists_in s) i

-- `window_listed_lem`: the listed window at an index is that of the lists
abbrev pub WindowListedMeans : Type 0
WindowListedMeans = (s : List ℕ) (i : ℕ) → window_listed_of (window_listed_in s i) ≡ L.window_at (lists_in s) i

-- `name_in_place`: a name that is shown, of the active zone or of a listed one, stands inside the table
abbrev pub NameInPlace : Type 0
NameInPlace = (s : List ℕ) → ((now : ℕ) → EndsInside (shown_by s (active_index s now))) × ((i : ℕ) → IfSome (zone_listed_in s i) EndsInside)

-- `holds_the_walk`: the 41 moments of a walk by value hold every moment of the walk
abbrev pub HoldsTheWalk : Type 0
HoldsTheWalk =
    (s : List ℕ) (start : ℕ)
    → take (suc (walk_owned (walk (lists_in s) start)).steps) (walk_owned (walk (lists_in s) start)).moments ≡ (walk (lists_in s) start).moments
