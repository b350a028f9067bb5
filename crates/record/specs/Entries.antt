-- What an answer for the entry at a place says, for any kind of entry.
use Rattle.std.specs.Prelude.{List, ◌≡◌, ℕ, ◌≤◌, length, drop, Option, None, Some, MatchOption}
use Rattle.model.specs.Bytes.{Front}

-- an entry is read at `at`, and the reader goes on at `next`
pub record EntryRead {A : Type 0} (read_one : List ℕ → Front A) (s : List ℕ) (at next : ℕ) : Type 0 where
  pub entry : A
  pub is : read_one (drop at s) ≡ Some (entry, drop next s)
  pub within : next ≤ length s

-- within the bytes nothing is answered where nothing is readable, and an entry where one is read, with the place after it
abbrev pub ReadAt : {A E : Type 0} → (List ℕ → Front A) → (E → ℕ) → List ℕ → ℕ → Option E → Type 0
ReadAt read_one next_of s at r = at ≤ length s → MatchOption r (read_one (drop at s) ≡ None) (λ e. EntryRead read_one s at (next_of e))
