-- Bytes: numbers, UTF-8 row by row, sections and records, good and damaged.
use Rattle.std.specs.Prelude.{true, false, [], ◌∷◌, ◌++◌, ◌≡◌, refl, pos, neg_ℤ, length, replicate, None, Some}
use Rattle.model.specs.Basics.{top}
use Rattle.model.specs.Lists.{Lists, empty}
use Rattle.model.specs.Bytes.{bytes, number, bits_of, signed, row, goes_on, well_formed, take_bytes, named, read_name, read_until, read_entry, read_all, all_bytes, zones_bytes, windows_bytes, record_bytes, record_most, read_zones, read_windows, read_record}
use Rattle.model.specs.Table.{zone, window}
use Rattle.model.specs.Examples.Cases.{Gives, ◌gives◌}

-- the ends of 32 bits and where the sign turns
offsets : Gives bits_of
    (pos 0 gives 0 ∷ pos 2147483647 gives 2147483647 ∷ neg_ℤ (pos 2147483648) gives 2147483648 ∷ neg_ℤ (pos 1) gives 4294967295 ∷ [])
unfolding bits_of
offsets = refl

signs : Gives signed
    (0 gives pos 0 ∷ 2147483647 gives pos 2147483647 ∷ 2147483648 gives neg_ℤ (pos 2147483648) ∷ 4294967295 gives neg_ℤ (pos 1) ∷ [])
unfolding signed
signs = refl

-- ## UTF-8: the first and last character of each row of table 3-7, and what lies just outside

good_text : Gives well_formed
    ([] gives true
    ∷ (0x00 ∷ []) gives true
    ∷ (0x7F ∷ []) gives true
    ∷ (0xC2 ∷ 0x80 ∷ []) gives true
    ∷ (0xDF ∷ 0xBF ∷ []) gives true
    ∷ (0xE0 ∷ 0xA0 ∷ 0x80 ∷ []) gives true
    ∷ (0xE0 ∷ 0xBF ∷ 0xBF ∷ []) gives true
    ∷ (0xE1 ∷ 0x80 ∷ 0x80 ∷ []) gives true
    ∷ (0xEC ∷ 0xBF ∷ 0xBF ∷ []) gives true
    ∷ (0xED ∷ 0x9F ∷ 0xBF ∷ []) gives true
    ∷ (0xEE ∷ 0x80 ∷ 0x80 ∷ []) gives true
    ∷ (0xEF ∷ 0xBF ∷ 0xBF ∷ []) gives true
    ∷ (0xF0 ∷ 0x90 ∷ 0x80 ∷ 0x80 ∷ []) gives true
    ∷ (0xF0 ∷ 0xBF ∷ 0xBF ∷ 0xBF ∷ []) gives true
    ∷ (0xF1 ∷ 0x80 ∷ 0x80 ∷ 0x80 ∷ []) gives true
    ∷ (0xF3 ∷ 0xBF ∷ 0xBF ∷ 0xBF ∷ []) gives true
    ∷ (0xF4 ∷ 0x8F ∷ 0xBF ∷ 0xBF ∷ []) gives true
    ∷ [])
unfolding row goes_on
good_text = refl

-- a byte that starts nothing, overlong forms, a surrogate, past the last character, a byte out of its range, and characters cut off
bad_text : Gives well_formed
    ((0x80 ∷ []) gives false
    ∷ (0xC0 ∷ 0x80 ∷ []) gives false
    ∷ (0xC1 ∷ 0xBF ∷ []) gives false
    ∷ (0xC2 ∷ 0x7F ∷ []) gives false
    ∷ (0xC2 ∷ 0xC0 ∷ []) gives false
    ∷ (0xE0 ∷ 0x9F ∷ 0xBF ∷ []) gives false
    ∷ (0xE0 ∷ 0xC0 ∷ 0x80 ∷ []) gives false
    ∷ (0xED ∷ 0xA0 ∷ 0x80 ∷ []) gives false
    ∷ (0xF0 ∷ 0x8F ∷ 0xBF ∷ 0xBF ∷ []) gives false
    ∷ (0xF0 ∷ 0xC0 ∷ 0x80 ∷ 0x80 ∷ []) gives false
    ∷ (0xF4 ∷ 0x90 ∷ 0x80 ∷ 0x80 ∷ []) gives false
    ∷ (0xF5 ∷ 0x80 ∷ 0x80 ∷ 0x80 ∷ []) gives false
    ∷ (0xFF ∷ []) gives false
    ∷ (0xC2 ∷ []) gives false
    ∷ (0xE2 ∷ 0x82 ∷ []) gives false
    ∷ (0xF0 ∷ 0x90 ∷ 0x80 ∷ []) gives false
    ∷ [])
unfolding row goes_on
bad_text = refl

-- ## Sections

-- 3600 from 0; −43,200 from 0; −1 from 258 to 3
zone_written : zones_bytes (zone (pos 3600) 0 ∷ []) ≡ 1 ∷ 0x10 ∷ 0x0E ∷ replicate 11 0
unfolding zones_bytes all_bytes bytes bits_of
zone_written = refl

west_written : zones_bytes (zone (neg_ℤ (pos 43200)) 0 ∷ []) ≡ 1 ∷ 0x40 ∷ 0x57 ∷ 0xFF ∷ 0xFF ∷ replicate 9 0
unfolding zones_bytes all_bytes bytes bits_of
west_written = refl

window_written : windows_bytes (window (neg_ℤ (pos 1)) 258 (Some 3) ∷ []) ≡ 1 ∷ 255 ∷ 255 ∷ 255 ∷ 255 ∷ 2 ∷ 1 ∷ replicate 6 0 ++ (1 ∷ 3 ∷ replicate 7 0)
unfolding windows_bytes all_bytes bytes bits_of
window_written = refl

-- no entry; no name; a name of no bytes, which is not no name; a name; the top; a count with nothing behind it; no bytes at all
zone_sections : Gives read_zones
    ((0 ∷ []) gives Some []
    ∷ (1 ∷ replicate 13 0) gives Some (zone (pos 0) 0 ∷ [])
    ∷ (1 ∷ replicate 12 0 ++ (1 ∷ 0 ∷ [])) gives Some (record { offset = pos 0; start = 0; name = Some [] } ∷ [])
    ∷ (1 ∷ replicate 12 0 ++ (1 ∷ 2 ∷ 0xC3 ∷ 0xBC ∷ [])) gives Some (record { offset = pos 0; start = 0; name = Some (0xC3 ∷ 0xBC ∷ []) } ∷ [])
    ∷ (1 ∷ replicate 4 0 ++ (replicate 8 255 ++ (0 ∷ []))) gives Some (zone (pos 0) top ∷ [])
    ∷ (1 ∷ []) gives None
    ∷ [] gives None
    ∷ [])
unfolding read_zones read_all read_entry take_bytes read_name named row goes_on number signed
zone_sections = refl

-- a missing byte, a byte left over, other marks, a name cut off, malformed UTF-8, and a second entry that is short of the count
damaged_zones : Gives read_zones
    ((1 ∷ replicate 12 0) gives None
    ∷ (1 ∷ replicate 14 0) gives None
    ∷ (0 ∷ 0 ∷ []) gives None
    ∷ (1 ∷ replicate 12 0 ++ (2 ∷ [])) gives None
    ∷ (1 ∷ replicate 12 0 ++ (255 ∷ [])) gives None
    ∷ (1 ∷ replicate 12 0 ++ (1 ∷ [])) gives None
    ∷ (1 ∷ replicate 12 0 ++ (1 ∷ 2 ∷ 65 ∷ [])) gives None
    ∷ (1 ∷ replicate 12 0 ++ (1 ∷ 1 ∷ 0xFF ∷ [])) gives None
    ∷ (2 ∷ replicate 13 0) gives None
    ∷ [])
unfolding read_zones read_all read_entry take_bytes read_name named row goes_on number signed
damaged_zones = refl

-- open; with an end; an end cut off; another mark
window_sections : Gives read_windows
    ((1 ∷ replicate 13 0) gives Some (window (pos 0) 0 None ∷ [])
    ∷ (1 ∷ replicate 12 0 ++ (1 ∷ replicate 8 255)) gives Some (window (pos 0) 0 (Some top) ∷ [])
    ∷ (1 ∷ replicate 12 0 ++ (1 ∷ replicate 7 255)) gives None
    ∷ (1 ∷ replicate 12 0 ++ (2 ∷ [])) gives None
    ∷ [])
unfolding read_windows read_all read_entry take_bytes read_until number signed
window_sections = refl

-- ## Records

records : Gives read_record ([] gives None ∷ (0 ∷ []) gives None ∷ (0 ∷ 0 ∷ []) gives Some empty ∷ (0 ∷ 0 ∷ 0 ∷ []) gives None ∷ [])
unfolding read_record read_all
records = refl

-- the fullest record at limits 8 and 16
abbrev fullest : Lists
fullest =
    record {
      zones = replicate 8 (record { offset = pos 0; start = 0; name = Some (replicate 64 65) });
      windows = replicate 16 (window (pos 0) 0 (Some 1));
    }

fullest_record : length (record_bytes fullest) ≡ record_most
unfolding record_bytes zones_bytes windows_bytes all_bytes bytes bits_of
fullest_record = refl
