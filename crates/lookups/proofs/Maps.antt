-- A lookup among what the entries stand for is what the lookup among the entries stands for.
use Rattle.std.proofs.Common.{◌≡◌, refl, Bool, List, [], ◌∷◌, map, option_map}
use Rattle.model.specs.Basics.{keep, last}
use Rattle.model.proofs.Facts.{by_test}

module _ {A B : Type 0} (f : A → B) where
  pub last_map : (l : List A) → last (map f l) ≡ option_map f (last l)
  unfolding last
  last_map [] = refl
  last_map (x ∷ []) = refl
  last_map (x ∷ (y ∷ l)) = last_map (y ∷ l)

  pub keep_map : (test : B → Bool) (l : List A) → keep test (map f l) ≡ map f (keep (λ x. test (f x)) l)
  unfolding keep
  keep_map test [] = refl
  keep_map test (x ∷ l) =
      let ih = keep_map test l in
      by_test (test (f x)) (λ t. rw (t, ih)) (λ t. rw (t, ih))
