-- What a reader finds at a place of some bytes, and where it goes on.
use Rattle.std.specs.Prelude.{◌&&◌, cond, List, [], ◌∷◌, ℕ, zero, suc, ◌+◌, ◌-◌, eqb, ltb, length, take, drop, get_or, Option, None, Some, option_map, option_and_then}
use Rattle.model.specs.Lists.{Name, Zone, Window}
use Rattle.model.specs.Bytes.{Front, number, signed, read_zone, read_window, read_all, read_section}
use Rattle.word.specs.Place.{fits_at, text_at}
use Rattle.record.specs.declared.entry.Head.{Head}
use Rattle.record.specs.declared.NamePlace.{NamePlace}
use Rattle.record.specs.declared.TimeZoneRead.{TimeZoneRead}
use Rattle.record.specs.declared.DSTOffsetRead.{DSTOffsetRead}
use Rattle.record.specs.declared.SectionRead.{SectionRead}
use Rattle.record.specs.declared.RecordRead.{RecordRead}

-- where a reader goes on: what is left of `s` after it
abbrev pub place_of : List ℕ → List ℕ → ℕ
place_of s left = length s - length left

-- ## An entry at a place

-- the offset, the start and the mark at `at`, where 13 bytes are there
unfoldable pub head_at : List ℕ → ℕ → Option Head
head_at s at =
    cond (fits_at s at 13)
    (Some (record { offset = signed (number (take 4 (drop at s))); start = number (take 8 (drop (at + 4) s)); mark = get_or s (at + 12) 0 }))
    None

-- the name whose length byte stands at `at`, where it is there and is well-formed
unfoldable pub name_there : List ℕ → ℕ → Option NamePlace
name_there s at = cond (ltb at (length s) && text_at s (at + 1) (get_or s at 0)) (Some (record { at = at + 1; len = get_or s at 0 })) None

-- a name of a zone at `at` stands behind offset, start, mark and length byte
abbrev pub name_place : ℕ → Option Name → Option NamePlace
name_place at None = None
name_place at (Some n) = Some (record { at = at + 14; len = length n })

abbrev pub zone_found : List ℕ → ℕ → Front Zone → Option TimeZoneRead
zone_found s at None = None
zone_found s at (Some f) = Some (record { offset = f.0.offset; valid_at = f.0.start; name = name_place at f.0.name; next = place_of s f.1 })

-- the zone at `at`
unfoldable pub zone_at : List ℕ → ℕ → Option TimeZoneRead
zone_at s at = zone_found s at (read_zone (drop at s))

abbrev pub window_found : List ℕ → Front Window → Option DSTOffsetRead
window_found s None = None
window_found s (Some f) = Some (record { offset = f.0.offset; valid_starting = f.0.start; valid_until = f.0.until; next = place_of s f.1 })

-- the window at `at`
unfoldable pub window_at : List ℕ → ℕ → Option DSTOffsetRead
window_at s at = window_found s (read_window (drop at s))

-- ## Entries from a place on

module _ {A : Type 0} (read_one : List ℕ → Front A) where
  -- where a reader goes on after so many entries from `at` on; none where one is unreadable
  abbrev pub place_left : List ℕ → ℕ → ℕ → Option ℕ
  place_left s at n = option_map (λ f. place_of s f.1) (read_all read_one n (drop at s))

module _ {E : Type 0} (found_at : List ℕ → ℕ → Option E) (next_of : E → ℕ) where
  -- so many entries from `at` on, found one after another, and the place after them; none where one is unreadable
  unfoldable pub entries_at : List ℕ → ℕ → ℕ → Option (List E × ℕ)
  entries_at s at zero = Some ([], at)
  entries_at s at (suc n) = option_and_then (λ e. option_map (λ p. (e ∷ p.0, p.1)) (entries_at s (next_of e) n)) (found_at s at)

  -- the place after them
  abbrev pub place_after : List ℕ → ℕ → ℕ → Option ℕ
  place_after s at n = option_map (λ p. p.1) (entries_at s at n)

-- ## A section at a place

module _ {A : Type 0} where
  abbrev pub section_found : List ℕ → Front (List A) → Option SectionRead
  section_found s None = None
  section_found s (Some f) = Some (record { count = length f.0; next = place_of s f.1 })

  -- the section at `at`, of entries that are read so
  unfoldable pub section_at : (List ℕ → Front A) → List ℕ → ℕ → Option SectionRead
  section_at read_one s at = section_found s (read_section read_one (drop at s))

-- the section of zones at `at`, and of windows
abbrev pub zones_at : List ℕ → ℕ → Option SectionRead
zones_at s at = section_at read_zone s at

abbrev pub windows_at : List ℕ → ℕ → Option SectionRead
windows_at s at = section_at read_window s at

-- how many entries a reader found
abbrev pub count_of : Option SectionRead → Option ℕ
count_of r = option_map (λ x. x.count) r

-- a reader at `at` goes on after the section that it found, and stays where nothing is readable
abbrev pub moved_to : ℕ → Option SectionRead → ℕ
moved_to at None = at
moved_to at (Some x) = x.next

-- a section after which nothing is left over of so many bytes
abbrev pub is_whole : ℕ → Option SectionRead → Option SectionRead
is_whole len None = None
is_whole len (Some x) = cond (eqb x.next len) (Some x) None

-- a request: one section from the first byte to the last
unfoldable pub zones_whole : List ℕ → Option SectionRead
zones_whole s = is_whole (length s) (zones_at s 0)

unfoldable pub windows_whole : List ℕ → Option SectionRead
windows_whole s = is_whole (length s) (windows_at s 0)

-- ## A record

abbrev pub windows_found : ℕ → ℕ → Option SectionRead → Option RecordRead
windows_found zones at None = None
windows_found zones at (Some x) = Some (record { zones = zones; at = at; windows = x.count })

abbrev pub zones_found : List ℕ → Option SectionRead → Option RecordRead
zones_found s None = None
zones_found s (Some x) = windows_found x.count x.next (is_whole (length s) (windows_at s x.next))

-- both sections, the place of the second, and nothing after them
unfoldable pub record_at : List ℕ → Option RecordRead
record_at s = zones_found s (zones_at s 0)

-- ## Entry `i` of the section at the front

module _ {E : Type 0} (found_at : List ℕ → ℕ → Option E) (next_of : E → ℕ) where
  -- the entry of an index below the count; else unreadable
  unfoldable pub section_entry : List ℕ → ℕ → Option E
  section_entry s i = cond (ltb i (get_or s 0 0)) (option_and_then (found_at s) (place_after found_at next_of s 1 i)) None

abbrev pub next_zone : TimeZoneRead → ℕ
next_zone z = z.next

abbrev pub section_zone : List ℕ → ℕ → Option TimeZoneRead
section_zone s i = section_entry zone_at next_zone s i

abbrev pub next_window : DSTOffsetRead → ℕ
next_window w = w.next

abbrev pub section_window : List ℕ → ℕ → Option DSTOffsetRead
section_window s i = section_entry window_at next_window s i
