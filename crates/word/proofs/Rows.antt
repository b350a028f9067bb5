-- The UTF-8 table by a first byte, and the ranges of its rows.
use Rattle.std.proofs.Common.{Bool, true, false, ◌&&◌, not, List, [], ◌∷◌, ◌≡◌, refl, ap, ◌∙◌, ℕ, suc, ◌+◌, ◌<◌, length, map, drop, get_or, Option, None, Some, Bor, arith, add-one, drop-cons}
use Rattle.std.proofs.lemmas.Bool.{not-true}
use Rattle.std.proofs.lemmas.Bool.Decides.{nat_tests}
use Rattle.std.proofs.lemmas.List.Elements.{All-get_or}
use Rattle.std.proofs.lemmas.List.Sums.{AllPass-from_list_all}
use Rattle.std.specs.Ordering.{nat_cmp}
use Rattle.std.specs.declared.ops.RangeInclusive.{RangeInclusive}
use Rattle.std.specs.Range.{range_inclusive_contains, range_inclusive_exhausted}
use Rattle.model.specs.Bytes.{Range, within, row, table, follow, goes_on, well_formed}
use Rattle.word.specs.Ranges.{range_of, AllFresh, Behind, BehindFirst}

-- what the table says of a first byte
pub by_table : (b : ℕ) (s : List ℕ) (o : Option (List Range)) → table b ≡ o → well_formed (b ∷ s) ≡ follow o (goes_on s)
unfolding goes_on
by_table b s o e = ap (λ (x : Option (List Range)). follow x (goes_on s)) e

-- bytes after it in the ranges of its row
pub by_row : (b : ℕ) (s : List ℕ) (rs : List Range) (r : Option (Bor (List ℕ))) → table b ≡ Some rs → Behind s rs r → BehindFirst b s r
by_row b s rs None e p = by_table b s (Some rs) e ∙ p
by_row b s rs (Some rest) e p = (by_table b s (Some rs) e ∙ p.0, p.1)

-- bytes below 0x80 are characters by themselves
plain : (b : ℕ) → b < 0x80 → table b ≡ Some []
unfolding row
plain b h = grind (arith, nat_tests)

pub none_left : (s : List ℕ) → length s < 1 → well_formed s ≡ true
unfolding goes_on
none_left [] h = refl
none_left (b ∷ s) h = absurd (omega arith)

pub ascii_text : (s : List ℕ) → ((i : ℕ) → get_or s i 0 < 0x80) → well_formed s ≡ true
ascii_text [] p = none_left [] (omega arith)
ascii_text (x ∷ s) p = by_table x s (Some []) (plain x (p 0)) ∙ ascii_text s (λ i. p (suc i))

-- what `contains` answers of a range that no value was taken off
in_range : (r : RangeInclusive ℕ) (b : ℕ) → range_inclusive_exhausted r ≡ false → range_inclusive_contains (λ x y. Some (nat_cmp x y)) r b ≡ within (range_of r) b
in_range r b e = rw e (grind (arith, nat_tests))

-- past the end of the ranges
abbrev past : RangeInclusive ℕ
past = record { start = 0; end = 0; exhausted = false }

module _ (rs : List (RangeInclusive ℕ)) (i : ℕ) (h : i < length rs) where
  first_range : map range_of (drop i rs) ≡ range_of (get_or rs i past) ∷ map range_of (drop (i + 1) rs)
  first_range = rw (add-one, drop-cons rs i past)

  -- no byte is left for a range
  pub no_byte : (s : List ℕ) → length s ≡ 0 → goes_on s (map range_of (drop i rs)) ≡ false
  unfolding goes_on
  no_byte [] z = rw first_range
  no_byte (b ∷ s) z = absurd (omega arith)

  fresh : AllFresh rs → range_inclusive_exhausted (get_or rs i past) ≡ false
  fresh f =
      let test = λ (r : RangeInclusive ℕ). not (range_inclusive_exhausted r) in
      not-true _ (All-get_or (λ r. test r ≡ true) rs i past h (AllPass-from_list_all test rs f))

  -- a byte for a range, by what `contains` answers of it
  pub one_byte : (s : List ℕ) (b : ℕ) (t : List ℕ) (v : Bool) → AllFresh rs → s ≡ b ∷ t
      → v ≡ range_inclusive_contains (λ x y. Some (nat_cmp x y)) (get_or rs i past) b
      → goes_on s (map range_of (drop i rs)) ≡ v && goes_on t (map range_of (drop (i + 1) rs))
  unfolding goes_on
  one_byte s b t v f e q = rw (e, first_range, q, in_range (get_or rs i past) b (fresh f))
