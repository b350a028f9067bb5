-- What the answers of the readers mean, and that writing and reading undo each other.
use Rattle.std.specs.Prelude.{true, List, [], ◌≡◌, ℕ, ◌+◌, ◌≤◌, ◌<◌, length, take, drop, Option, None, Some, slice_get, option_map}
use Rattle.model.specs.Lists.{Zone, Window, Lists}
use Rattle.model.specs.Rules.{Rules, allowed}
use Rattle.model.specs.Bytes.{read_zone, read_window, read_all, read_zones, read_windows, record_bytes, record_most, read_record}
use Rattle.model.specs.Demand3.{Accepted}
use Rattle.model.specs.RoundTrip.{AreBytes, ListsFit}
use Rattle.record.specs.declared.TimeZoneRead.{TimeZoneRead}
use Rattle.record.specs.declared.DSTOffsetRead.{DSTOffsetRead}
use Rattle.record.specs.declared.SectionRead.{SectionRead}
use Rattle.record.specs.declared.Record.{Record}
use Rattle.record.specs.Data.{zone_named}
use Rattle.record.specs.Fronts.{zones_whole, windows_whole, record_at, section_zone, section_window}
use Rattle.record.specs.Written.{record_of}

-- ## Requests

module _ {A : Type 0} where
  -- the answer for a request that reads as these entries
  abbrev pub request_found : ℕ → Option (List A) → Option SectionRead
  request_found len None = None
  request_found len (Some xs) = Some (record { count = length xs; next = len })

-- `zones_mean` and `windows_mean` in proofs/Meaning.antt
abbrev pub ZonesMean : Type 0
ZonesMean = (s : List ℕ) → zones_whole s ≡ request_found (length s) (read_zones s)

abbrev pub WindowsMean : Type 0
WindowsMean = (s : List ℕ) → windows_whole s ≡ request_found (length s) (read_windows s)

-- ## Entries: what was read at a place of `s`

abbrev pub zone_read : List ℕ → Option TimeZoneRead → Option Zone
zone_read s r = option_map (λ z. zone_named s z.offset z.valid_at z.name) r

abbrev pub window_of : DSTOffsetRead → Window
window_of w = record { offset = w.offset; start = w.valid_starting; until = w.valid_until }

abbrev pub window_read : Option DSTOffsetRead → Option Window
window_read r = option_map window_of r

-- entry `i` of a readable section is its `i`th: `zone_indexed` and `window_indexed` in proofs/AtIndex.antt
abbrev pub ZoneIndexed : Type 0
ZoneIndexed = (s : List ℕ) (zs : List Zone) → read_zones s ≡ Some zs → (i : ℕ) → i < length zs → zone_read s (section_zone s i) ≡ slice_get zs i

abbrev pub WindowIndexed : Type 0
WindowIndexed = (s : List ℕ) (ws : List Window) → read_windows s ≡ Some ws → (i : ℕ) → i < length ws → window_read (section_window s i) ≡ slice_get ws i

-- ## Records

-- the two sections of a readable record: the second starts at `at`, and both are there entry by entry
pub record Sections (s : List ℕ) (l : Lists) : Type 0 where
  pub at : ℕ
  pub answer : record_at s ≡ Some (record { zones = length l.zones; at = at; windows = length l.windows })
  pub zones : read_all read_zone (length l.zones) (drop 1 s) ≡ Some (l.zones, drop at s)
  pub windows : read_all read_window (length l.windows) (drop (at + 1) s) ≡ Some (l.windows, [])

-- `record_means` in proofs/Meaning.antt
pub record RecordMeans (s : List ℕ) : Type 0 where
  pub unreadable : read_record s ≡ None → record_at s ≡ None
  pub readable : (l : Lists) → read_record s ≡ Some l → Sections s l

-- ## The round trip

-- the bytes of a record
abbrev pub bytes_of : Record → List ℕ
bytes_of r = take r.length r.bytes

-- at limits that are allowed the record of accepted lists fits the buffer and reads back as the lists: `written_reads` in proofs/Again.antt
abbrev pub WrittenReads : Type 0
WrittenReads =
    (r : Rules) (l : Lists) → allowed r ≡ true → Accepted r l → ListsFit l
    → (length (record_bytes l) ≤ record_most) × (read_record (bytes_of (record_of l)) ≡ Some l)

-- at such limits a record that is read and accepted fits the buffer and is written back byte for byte: `read_writes` in proofs/Again.antt
abbrev pub ReadWrites : Type 0
ReadWrites =
    (r : Rules) (s : List ℕ) (l : Lists) → allowed r ≡ true → AreBytes s → read_record s ≡ Some l → Accepted r l
    → (length s ≤ record_most) × (bytes_of (record_of l) ≡ s)
