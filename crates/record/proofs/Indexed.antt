-- Entries found by going from place to place.
use Rattle.std.proofs.Common.{List, ◌∷◌, ◌≡◌, refl, ap, ◌∙◌, ℕ, suc, get_or, Option, None, Some, slice_get, unwrap_or, option_map, option_and_then}
use Rattle.std.proofs.lemmas.Option.{unwrap_or-slice_get}
use Rattle.record.specs.Fronts.{entries_at, place_after}

-- what a first element says of the count at the front
pub count_is : (s : List ℕ) {r : Option ℕ} → r ≡ slice_get s 0 → unwrap_or r 0 ≡ get_or s 0 0
count_is s e = ap (λ (o : Option ℕ). unwrap_or o 0) e ∙ unwrap_or-slice_get s 0 0

module _ {E : Type 0} (found_at : List ℕ → ℕ → Option E) (next_of : E → ℕ) (s : List ℕ) where
  -- one entry and those behind it
  pub place_more : (at i : ℕ) {k : ℕ} → option_map next_of (found_at s at) ≡ Some k → place_after found_at next_of s at (suc i) ≡ place_after found_at next_of s k i
  unfolding entries_at
  place_more at i {k} h = go (found_at s at) h
    where
      last : (e : E) (o : Option (List E × ℕ)) → option_map (λ (p : List E × ℕ). p.1) (option_map (λ (p : List E × ℕ). (e ∷ p.0, p.1)) o) ≡ option_map (λ (p : List E × ℕ). p.1) o
      last e None = refl
      last e (Some p) = refl

      go : (f : Option E) → option_map next_of f ≡ Some k
          → option_map (λ (p : List E × ℕ). p.1) (option_and_then (λ (e : E). option_map (λ (p : List E × ℕ). (e ∷ p.0, p.1)) (entries_at found_at next_of s (next_of e) i)) f)
          ≡ place_after found_at next_of s k i
      go None h = cc
      go (Some e) h = let q : next_of e ≡ k = cc in last e (entries_at found_at next_of s (next_of e) i) ∙ ap (λ (n : ℕ). place_after found_at next_of s n i) q

  -- none where the first is unreadable
  pub place_stops : (at i : ℕ) → found_at s at ≡ None → place_after found_at next_of s at (suc i) ≡ None
  unfolding entries_at
  place_stops at i h = rw h

-- the goals of `place_after`
pub ruleset placing = (place_more, place_stops)
