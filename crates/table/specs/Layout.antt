-- A table: 1,040 bytes that a caller lends or keeps, each part at a fixed place, numbers little endian. It is a list store: any bytes
-- in it stand for some limits, some lists and some generation; fewer bytes hold no entry.
--
--   at   bytes  what
--    0     1    zone limit, held at 8
--    1     1    window limit, held at 16
--    2     1    how many zones there are, held at 8
--    3     1    how many windows there are, held at 16
--    4     4    generation
--    8     8    not used
--   16   640    8 zones, 80 bytes each, written as in a record; what is left of the 80 is not used
--  656   384    16 windows, 24 bytes each, written as in a record; what is left of the 24 is not used
use Rattle.std.specs.Prelude.{ℕ, zero, suc, ◌+◌, ◌*◌, min, Bool, cond, not, List, [], ◌∷◌, length, take, drop, replicate, ◌==◌, nat_le, Option, None, Some}
use Rattle.model.specs.Lists.{Name, Zone, Window, Lists}
use Rattle.model.specs.Bytes.{bytes, signed, zone_bytes, window_bytes}
use Rattle.model.specs.Rules.{Rules}
use Rattle.model.specs.Store.{Store, next_generation}
use Rattle.word.specs.Place.{byte_at, word_at, placed}

-- ## Places

-- how many bytes a table has
abbrev pub table_size : ℕ
table_size = 1040

abbrev pub zone_limit_place : ℕ
zone_limit_place = 0

abbrev pub window_limit_place : ℕ
window_limit_place = 1

abbrev pub zone_count_place : ℕ
zone_count_place = 2

abbrev pub window_count_place : ℕ
window_count_place = 3

abbrev pub generation_place : ℕ
generation_place = 4

-- where the zone with index i stands
abbrev pub zone_place : ℕ → ℕ
zone_place i = 16 + 80 * i

-- where the window with index i stands
abbrev pub window_place : ℕ → ℕ
window_place i = 656 + 24 * i

-- ## Marks

-- a mark is set where its byte is not 0
abbrev pub mark_at : List ℕ → ℕ → Bool
mark_at s at = not (byte_at s at == 0)

-- a number of 8 bytes at `at`, where the mark is set
abbrev pub maybe_at : List ℕ → ℕ → ℕ → Option ℕ
maybe_at s mark at = cond (mark_at s mark) (Some (word_at 8 s at)) None

-- ## Entries: any bytes in their places stand for some zone and some window

-- of a name at most 64 bytes are there
abbrev pub name_at : List ℕ → ℕ → Name
name_at s at = take (min (byte_at s (at + 13)) 64) (drop (at + 14) s)

abbrev pub zone_at : List ℕ → ℕ → Zone
zone_at s at =
    record {
      offset = signed (word_at 4 s at);
      start = word_at 8 s (at + 4);
      name = cond (mark_at s (at + 12)) (Some (name_at s at)) None;
    }

abbrev pub window_at : List ℕ → ℕ → Window
window_at s at =
    record { offset = signed (word_at 4 s at); start = word_at 8 s (at + 4); until = maybe_at s (at + 12) (at + 13) }

module _ {A : Type 0} where
  -- n entries, from the one with index i on
  unfoldable pub entries_from : (ℕ → A) → ℕ → ℕ → List A
  entries_from entry i zero = []
  entries_from entry i (suc n) = entry i ∷ entries_from entry (suc i) n

-- ## What a table stands for

-- how many entries a count says: no more than there are places, and none in a slice that is shorter than a table
abbrev pub count_in : ℕ → ℕ → List ℕ → ℕ
count_in place most s = cond (nat_le table_size (length s)) (min (byte_at s place) most) 0

abbrev pub zone_count : List ℕ → ℕ
zone_count s = count_in zone_count_place 8 s

abbrev pub window_count : List ℕ → ℕ
window_count s = count_in window_count_place 16 s

-- the bytes of each place in use
unfoldable pub zone_places : List ℕ → List (List ℕ)
zone_places s = entries_from (λ i. take 80 (drop (zone_place i) s)) 0 (zone_count s)

unfoldable pub window_places : List ℕ → List (List ℕ)
window_places s = entries_from (λ i. take 24 (drop (window_place i) s)) 0 (window_count s)

-- the lists
unfoldable pub zones_in : List ℕ → List Zone
zones_in s = entries_from (λ i. zone_at s (zone_place i)) 0 (zone_count s)

unfoldable pub windows_in : List ℕ → List Window
windows_in s = entries_from (λ i. window_at s (window_place i)) 0 (window_count s)

abbrev pub lists_in : List ℕ → Lists
lists_in s = record { zones = zones_in s; windows = windows_in s }

-- the limits
abbrev pub zone_limit_in : List ℕ → ℕ
zone_limit_in s = min (byte_at s zone_limit_place) 8

abbrev pub window_limit_in : List ℕ → ℕ
window_limit_in s = min (byte_at s window_limit_place) 16

abbrev pub rules_in : List ℕ → Rules
rules_in s = record { zone_limit = zone_limit_in s; window_limit = window_limit_in s }

abbrev pub generation_in : List ℕ → ℕ
generation_in s = word_at 4 s generation_place

-- the list store
abbrev pub store_in : List ℕ → Store
store_in s = record { rules = rules_in s; lists = lists_in s; generation = generation_in s }

-- ## Entries written: the bytes of each as in a record, at its place; what is left of the place stays

module _ {A : Type 0} (place : ℕ → ℕ) (entry_bytes : A → List ℕ) where
  unfoldable pub put_entries : List ℕ → ℕ → List A → List ℕ
  put_entries s i [] = s
  put_entries s i (x ∷ xs) = put_entries (placed s (place i) (entry_bytes x)) (suc i) xs

-- other zones: how many there are, then each
unfoldable pub with_zones : List ℕ → List Zone → List ℕ
with_zones s zs = put_entries zone_place zone_bytes (placed s zone_count_place (length zs ∷ [])) 0 zs

-- other windows
unfoldable pub with_windows : List ℕ → List Window → List ℕ
with_windows s ws = put_entries window_place window_bytes (placed s window_count_place (length ws ∷ [])) 0 ws

-- both
abbrev pub with_lists : List ℕ → Lists → List ℕ
with_lists s l = with_windows (with_zones s l.zones) l.windows

-- ## The generation, and a new table

-- one change more is counted
unfoldable pub counted : List ℕ → List ℕ
counted s = placed s generation_place (bytes 4 (next_generation (generation_in s)))

-- the limits, and zeros: no zone, no window, generation 0
unfoldable pub new_bytes : Rules → List ℕ
new_bytes r = r.zone_limit ∷ r.window_limit ∷ replicate 1038 0

unfoldable pub new_table : List ℕ → Rules → List ℕ
new_table s r = placed s 0 (new_bytes r)
