-- Entries that stand in some bytes as they are written.
use Rattle.std.specs.Prelude.{◌≡◌, ℕ, zero, suc, ◌+◌, ◌≤◌, ⊤, cond, List, [], ◌∷◌, ◌++◌, length, take, drop, ◌==◌, None, Some}
use Rattle.model.specs.Lists.{Zone, Window}
use Rattle.model.specs.Bytes.{Front, all_bytes, read_zone, read_window, read_all}
use Rattle.word.specs.Place.{byte_at}
use Rattle.table.specs.Layout.{mark_at}

-- how many bytes the entry at `at` has, by its mark
unfoldable pub zone_length_at : List ℕ → ℕ → ℕ
zone_length_at s at = cond (byte_at s (at + 12) == 0) 13 (14 + byte_at s (at + 13))

unfoldable pub window_length_at : List ℕ → ℕ → ℕ
window_length_at s at = cond (byte_at s (at + 12) == 0) 13 21

-- offset, start and mark of the entry in a place as they are written
unfoldable pub head_bytes : List ℕ → List ℕ
head_bytes place = take 12 place ++ (cond (mark_at place 12) 1 0 ∷ [])

module _ {A : Type 0} where
  -- what was read
  abbrev pub found : Front (List A) → List A
  found None = []
  found (Some f) = f.0

  -- the entries `xs` stand in `s` from `from` on
  pub record Held (entry_bytes : A → List ℕ) (s : List ℕ) (from n : ℕ) (xs : List A) : Type 0 where
    pub number : length xs ≡ n
    pub within : from ≤ length s
    pub rest : List ℕ
    pub is : drop from s ≡ all_bytes entry_bytes xs ++ rest

-- the entries of the section at `at`: they stand behind their count
unfoldable pub zones_behind : List ℕ → ℕ → List Zone
zones_behind s at = found (read_all read_zone (byte_at s at) (drop (at + 1) s))

unfoldable pub windows_behind : List ℕ → ℕ → List Window
windows_behind s at = found (read_all read_window (byte_at s at) (drop (at + 1) s))

-- ## Entries of some kind, by how many bytes one at a place has

module _ (length_at : List ℕ → ℕ → ℕ) where
  -- the bytes of each of the n entries from `at` on
  unfoldable pub parts_from : List ℕ → ℕ → ℕ → List (List ℕ)
  parts_from s at zero = []
  parts_from s at (suc n) = take (length_at s at) (drop at s) ∷ parts_from s (at + length_at s at) n

  -- the place after them
  unfoldable pub end_of : List ℕ → ℕ → ℕ → ℕ
  end_of s at zero = at
  end_of s at (suc n) = end_of s (at + length_at s at) n

  -- they all stand there
  unfoldable pub Whole : List ℕ → ℕ → ℕ → Type 0
  Whole s at zero = ⊤
  Whole s at (suc n) = (at + 13 ≤ length s) × (at + length_at s at ≤ length s) × Whole s (at + length_at s at) n
