-- The ranges of the UTF-8 table as the code has them, and what is left of some bytes behind a character.
use Rattle.std.specs.Prelude.{◌≡◌, false, List, ◌∷◌, ℕ, ◌≤◌, length, not, Option, MatchOption, IsTrue}
use Rattle.std.specs.Borrow.{Bor}
use Rattle.std.specs.List.{list_all}
use Rattle.std.specs.declared.ops.RangeInclusive.{RangeInclusive}
use Rattle.std.specs.Range.{range_inclusive_start, range_inclusive_end, range_inclusive_exhausted}
use Rattle.model.specs.Bytes.{Range, ◌··◌, goes_on, well_formed}

abbrev pub range_of : RangeInclusive ℕ → Range
range_of r = range_inclusive_start r ·· range_inclusive_end r

-- no value was taken off a range yet
abbrev pub AllFresh : List (RangeInclusive ℕ) → Type 0
AllFresh rs = IsTrue (list_all (λ r. not (range_inclusive_exhausted r)) rs)

-- the rest of s behind bytes in the ranges rs, on which alone it now depends whether s goes on with them; none where s does not
abbrev pub Behind : List ℕ → List Range → Option (Bor (List ℕ)) → Type 0
Behind s rs r = MatchOption r (goes_on s rs ≡ false) (λ rest. (goes_on s rs ≡ well_formed rest.now) × (length rest.now ≤ length s))

-- the same of a character that begins with the byte b
abbrev pub BehindFirst : ℕ → List ℕ → Option (Bor (List ℕ)) → Type 0
BehindFirst b s r = MatchOption r (well_formed (b ∷ s) ≡ false) (λ rest. (well_formed (b ∷ s) ≡ well_formed rest.now) × (length rest.now ≤ length s))
