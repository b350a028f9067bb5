-- What is shown of a zone and of an entry of a table; a name is shown by its place.
use Rattle.std.specs.Prelude.{◌&&◌, cond, List, ℕ, ◌+◌, min, leb, ltb, eqb, pos, Option, None, Some}
use Rattle.model.specs.Basics.{keep, last}
use Rattle.model.specs.Lists.{Window}
use Rattle.word.specs.Place.{byte_at}
use Rattle.table.specs.Layout.{mark_at, zone_place, window_place, zone_at, window_at, entries_from, zone_count, window_count}
use Rattle.record.specs.declared.NamePlace.{NamePlace}
use Rattle.lookups.specs.declared.ZoneShown.{ZoneShown}
use Rattle.lookups.specs.declared.DSTOffsetEntry.{DSTOffsetEntry}

-- ## Zones

-- where the name of the zone at a place stands, if it has one
abbrev pub name_place : List ℕ → ℕ → Option NamePlace
name_place s at = cond (mark_at s (at + 12)) (Some (record { at = at + 14; len = min (byte_at s (at + 13)) 64 })) None

-- the zone at a place of the table
abbrev pub shown_at : List ℕ → ℕ → ZoneShown
shown_at s at = record { offset = (zone_at s at).offset; valid_at = (zone_at s at).start; name = name_place s at }

-- no zone: offset 0 from moment 0 with no name
abbrev pub blank_shown : ZoneShown
blank_shown = record { offset = pos 0; valid_at = 0; name = None }

abbrev pub shown_by : List ℕ → Option ℕ → ZoneShown
shown_by s None = blank_shown
shown_by s (Some i) = shown_at s (zone_place i)

-- the zone with an index, if it is there
unfoldable pub zone_there : List ℕ → ℕ → Option ZoneShown
zone_there s i = cond (ltb i (zone_count s)) (Some (shown_at s (zone_place i))) None

-- the indices of the zones, in order
abbrev pub zone_indices : List ℕ → List ℕ
zone_indices s = entries_from (λ i. i) 0 (zone_count s)

-- the index of the last zone that has started
unfoldable pub active_index : List ℕ → ℕ → Option ℕ
active_index s now = last (keep (λ i. leb (zone_at s (zone_place i)).start now) (zone_indices s))

-- of n zones the one at an index; an empty list shows the blank one at index 0
abbrev pub listed_of : List ℕ → ℕ → ℕ → Option ZoneShown
listed_of s i n = cond (ltb i n) (Some (shown_at s (zone_place i))) (cond (eqb n 0 && eqb i 0) (Some blank_shown) None)

-- the listed zone at an index
unfoldable pub zone_listed_in : List ℕ → ℕ → Option ZoneShown
zone_listed_in s i = listed_of s i (zone_count s)

-- ## Windows

-- a window by value
abbrev pub window_shown : Window → DSTOffsetEntry
window_shown w = record { offset = w.offset; valid_starting = w.start; valid_until = w.until }

-- the window at an index
unfoldable pub window_listed_in : List ℕ → ℕ → Option DSTOffsetEntry
window_listed_in s i = cond (ltb i (window_count s)) (Some (window_shown (window_at s (window_place i)))) None
