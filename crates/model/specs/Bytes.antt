-- The bytes of the lists: what a section and a record are written as, and what bytes read as.
use Rattle.std.specs.Prelude.{Bool, true, false, ◌&&◌, cond, List, [], ◌∷◌, ◌++◌, ℕ, zero, suc, ◌+◌, ◌-◌, ◌*◌, ◌/◌, ◌%◌, ◌^◌, leb, ltb, ℤ, pos, negsuc, length, take, drop, Option, None, Some}
use Rattle.model.specs.Lists.{Name, Zone, Window, Lists}

-- ## Numbers: little endian, and two's complement for offsets

-- the `w` lowest bytes of a number, the lowest first
unfoldable pub bytes : ℕ → ℕ → List ℕ
bytes zero v = []
bytes (suc w) v = v % 256 ∷ bytes w (v / 256)

-- the number that bytes spell, the lowest first
unfoldable pub number : List ℕ → ℕ
number [] = 0
number (b ∷ bs) = b + 256 * number bs

-- the 32 bits that stand for an offset; `negsuc n` is −(n + 1)
unfoldable pub bits_of : ℤ → ℕ
bits_of (pos n) = n
bits_of (negsuc n) = 2 ^ 32 - suc n

-- the offset that 32 bits stand for: below 2 ^ 31 the number itself, from there on the number less 2 ^ 32
unfoldable pub signed : ℕ → ℤ
signed n = cond (ltb n (2 ^ 31)) (pos n) (negsuc (2 ^ 32 - suc n))

-- ## Well-formed UTF-8: the Unicode Standard, table 3-7, row by row

-- a range of bytes, with both ends
infix 90 ◌··◌
pub data Range : Type 0 where
  ◌··◌ : ℕ → ℕ → Range

-- whether a byte lies in a range
abbrev pub within : Range → ℕ → Bool
within (lo ·· hi) b = leb lo b && leb b hi

-- a row: where the byte `a` is in the first range, the ranges of the bytes that follow it; else the rows below
unfoldable pub row : ℕ → Range → List Range → Option (List Range) → Option (List Range)
row a first rest below = cond (within first a) (Some rest) below

-- the table: the ranges of the bytes that follow a first byte, or none where no character starts so
abbrev pub table : ℕ → Option (List Range)
table a =
    row a (0x00 ·· 0x7F) []
    (row a (0xC2 ·· 0xDF) (0x80 ·· 0xBF ∷ [])
    (row a (0xE0 ·· 0xE0) (0xA0 ·· 0xBF ∷ 0x80 ·· 0xBF ∷ [])
    (row a (0xE1 ·· 0xEC) (0x80 ·· 0xBF ∷ 0x80 ·· 0xBF ∷ [])
    (row a (0xED ·· 0xED) (0x80 ·· 0x9F ∷ 0x80 ·· 0xBF ∷ [])
    (row a (0xEE ·· 0xEF) (0x80 ·· 0xBF ∷ 0x80 ·· 0xBF ∷ [])
    (row a (0xF0 ·· 0xF0) (0x90 ·· 0xBF ∷ 0x80 ·· 0xBF ∷ 0x80 ·· 0xBF ∷ [])
    (row a (0xF1 ·· 0xF3) (0x80 ·· 0xBF ∷ 0x80 ·· 0xBF ∷ 0x80 ·· 0xBF ∷ [])
    (row a (0xF4 ·· 0xF4) (0x80 ·· 0x8F ∷ 0x80 ·· 0xBF ∷ 0x80 ·· 0xBF ∷ [])
    None))))))))

-- go on with the ranges that a first byte asks for; not well-formed where no character starts so
abbrev pub follow : Option (List Range) → (List Range → Bool) → Bool
follow None go = false
follow (Some rest) go = go rest

-- the bytes end a character of which bytes in these ranges are still due, and then are whole characters
unfoldable pub goes_on : List ℕ → List Range → Bool
goes_on [] [] = true
goes_on [] (r ∷ rs) = false
goes_on (b ∷ s) [] = follow (table b) (λ rs. goes_on s rs)
goes_on (b ∷ s) (r ∷ rs) = within r b && goes_on s rs

-- whole characters and nothing else
abbrev pub well_formed : List ℕ → Bool
well_formed s = goes_on s []

-- ## What is written

-- mark 0 for no name; mark 1, the length in one byte, and the name's bytes
abbrev pub name_bytes : Option Name → List ℕ
name_bytes None = 0 ∷ []
name_bytes (Some n) = 1 ∷ length n ∷ n

-- a zone: offset in 4 bytes, start in 8, and the name
abbrev pub zone_bytes : Zone → List ℕ
zone_bytes z = bytes 4 (bits_of z.offset) ++ (bytes 8 z.start ++ name_bytes z.name)

-- mark 0 for an open window; mark 1 and the end in 8 bytes
abbrev pub until_bytes : Option ℕ → List ℕ
until_bytes None = 0 ∷ []
until_bytes (Some e) = 1 ∷ bytes 8 e

-- a window: offset in 4 bytes, start in 8, and the end
abbrev pub window_bytes : Window → List ℕ
window_bytes w = bytes 4 (bits_of w.offset) ++ (bytes 8 w.start ++ until_bytes w.until)

module _ {A : Type 0} (entry_bytes : A → List ℕ) where
  -- entries one after another
  unfoldable pub all_bytes : List A → List ℕ
  all_bytes [] = []
  all_bytes (x ∷ xs) = entry_bytes x ++ all_bytes xs

  -- a section: a count in one byte, then the entries
  abbrev pub section_bytes : List A → List ℕ
  section_bytes xs = length xs ∷ all_bytes xs

unfoldable pub zones_bytes : List Zone → List ℕ
zones_bytes zs = section_bytes zone_bytes zs

unfoldable pub windows_bytes : List Window → List ℕ
windows_bytes ws = section_bytes window_bytes ws

-- the record: the zones' section, then the windows'
unfoldable pub record_bytes : Lists → List ℕ
record_bytes l = zones_bytes l.zones ++ windows_bytes l.windows

-- the record buffer: how many bytes the largest record of accepted lists has
abbrev pub record_most : ℕ
record_most = 962

-- ## What is read

-- what a reader takes off the front of the bytes, and the bytes that are left; none where they are unreadable
abbrev pub Front : Type 0 → Type 0
Front A = Option (A × List ℕ)

module _ {A B : Type 0} where
  -- read on after what was taken off
  abbrev pub then : Front A → (A → List ℕ → Front B) → Front B
  then None go = None
  then (Some f) go = go f.0 f.1

-- so many bytes; unreadable where one is missing
unfoldable pub take_bytes : ℕ → List ℕ → Front (List ℕ)
take_bytes n s = cond (leb n (length s)) (Some (take n s, drop n s)) None

-- one byte
abbrev pub byte : List ℕ → Front ℕ
byte [] = None
byte (b ∷ s) = Some (b, s)

-- a name, where its bytes are well-formed UTF-8; else unreadable
unfoldable pub named : Bool → Name → List ℕ → Front (Option Name)
named true n s = Some (Some n, s)
named false n s = None

-- by its mark a name or none; a mark above 1 is unreadable
unfoldable pub read_name : ℕ → List ℕ → Front (Option Name)
read_name zero s = Some (None, s)
read_name (suc zero) s = then (byte s) (λ n s₁. then (take_bytes n s₁) (λ name s₂. named (well_formed name) name s₂))
read_name (suc (suc mark)) s = None

-- by its mark an end or none; a mark above 1 is unreadable
unfoldable pub read_until : ℕ → List ℕ → Front (Option ℕ)
read_until zero s = Some (None, s)
read_until (suc zero) s = then (take_bytes 8 s) (λ e s₁. Some (Some (number e), s₁))
read_until (suc (suc mark)) s = None

-- an entry: its offset, its start, its mark, and what follows by the mark
module _ {A B : Type 0} (tail : ℕ → List ℕ → Front A) (make : ℤ → ℕ → A → B) where
  unfoldable pub read_entry : List ℕ → Front B
  read_entry s =
      then (take_bytes 4 s) (λ o s₁.
      then (take_bytes 8 s₁) (λ t s₂.
      then (byte s₂) (λ mark s₃.
      then (tail mark s₃) (λ a s₄. Some (make (signed (number o)) (number t) a, s₄)))))

abbrev pub make_zone : ℤ → ℕ → Option Name → Zone
make_zone o t n = record { offset = o; start = t; name = n }

abbrev pub make_window : ℤ → ℕ → Option ℕ → Window
make_window o t u = record { offset = o; start = t; until = u }

abbrev pub read_zone : List ℕ → Front Zone
read_zone s = read_entry read_name make_zone s

abbrev pub read_window : List ℕ → Front Window
read_window s = read_entry read_until make_window s

module _ {A : Type 0} (read_one : List ℕ → Front A) where
  -- so many entries
  unfoldable pub read_all : ℕ → List ℕ → Front (List A)
  read_all zero s = Some ([], s)
  read_all (suc n) s = then (read_one s) (λ x s₁. then (read_all n s₁) (λ xs s₂. Some (x ∷ xs, s₂)))

  -- a section: a count in one byte, and so many entries
  abbrev pub read_section : List ℕ → Front (List A)
  read_section s = then (byte s) (λ n s₁. read_all n s₁)

module _ {A : Type 0} where
  -- a byte left over is unreadable
  abbrev pub nothing_left : A → List ℕ → Option A
  nothing_left a [] = Some a
  nothing_left a (b ∷ s) = None

  -- what was taken off, where nothing is left over
  abbrev pub whole : Front A → Option A
  whole None = None
  whole (Some f) = nothing_left f.0 f.1

-- SetTimeZone's request: one section of zones
unfoldable pub read_zones : List ℕ → Option (List Zone)
read_zones s = whole (read_section read_zone s)

-- SetDSTOffset's request: one section of windows
unfoldable pub read_windows : List ℕ → Option (List Window)
read_windows s = whole (read_section read_window s)

-- the two sections of a record, and the bytes that are left
abbrev pub read_sections : List ℕ → Front Lists
read_sections s =
    then (read_section read_zone s) (λ zs s₁. then (read_section read_window s₁) (λ ws s₂. Some (record { zones = zs; windows = ws }, s₂)))

-- the stored record: both sections and nothing else
unfoldable pub read_record : List ℕ → Option Lists
read_record s = whole (read_sections s)
