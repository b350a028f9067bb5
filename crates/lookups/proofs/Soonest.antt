-- The soonest moment after now, as a loop finds it in the places of the entries: the best so far, and what is left.
use Rattle.std.proofs.Common.{◌≡◌, refl, ◌∙◌, ap, ℕ, ◌<◌, min, List, [], ◌∷◌, ◌++◌, ltb, ltb-true, le-ltb, ne_eqb, arith, Option, None, Some, unwrap_or}
use Rattle.model.specs.Basics.{keep, least_of, smallest}
use Rattle.model.specs.Lookups.{later, end_then}
use Rattle.model.proofs.Facts.{by_test}
use Rattle.lookups.specs.Transitions.{sooner, soonest, moment_of}

least_min : (b t : ℕ) (ts : List ℕ) → least_of (min b t) ts ≡ least_of b (t ∷ ts)
unfolding least_of
least_min b t [] = refl
least_min b t (y ∷ ys) = omega arith

found : (t : ℕ) → 0 < t → moment_of t ≡ Some t
unfolding moment_of
found t h = rw (ne_eqb t 0 (λ e. absurd (omega arith)))

module _ (utc : ℕ) where
  -- from one that was found on
  soonest_least : (b : ℕ) (ts : List ℕ) → 0 < b → soonest utc b ts ≡ least_of b (later utc ts)
  unfolding soonest sooner keep least_of
  soonest_least b [] h = refl
  soonest_least b (t ∷ ts) h =
      by_test (ltb utc t)
      (λ e. let l = ltb-true utc t e in rw (e, ne_eqb b 0 (λ z. absurd (omega arith))) (soonest_least (min b t) ts (omega arith) ∙ least_min b t (later utc ts)))
      (λ e. rw e (soonest_least b ts h))

  soonest_found : (b : ℕ) (ts : List ℕ) → 0 < b → 0 < soonest utc b ts
  unfolding soonest sooner
  soonest_found b [] h = h
  soonest_found b (t ∷ ts) h =
      by_test (ltb utc t)
      (λ e. let l = ltb-true utc t e in rw (e, ne_eqb b 0 (λ z. absurd (omega arith))) (soonest_found (min b t) ts (omega arith)))
      (λ e. rw e (soonest_found b ts h))

  -- it is the smallest of those after now
  pub soonest_smallest : (ts : List ℕ) → moment_of (soonest utc 0 ts) ≡ smallest (later utc ts)
  unfolding moment_of soonest sooner keep smallest
  soonest_smallest [] = refl
  soonest_smallest (t ∷ ts) =
      by_test (ltb utc t)
      (λ e. let l = ltb-true utc t e in rw e (found (soonest utc t ts) (soonest_found t ts (omega arith)) ∙ ap Some (soonest_least t ts (omega arith))))
      (λ e. rw e (soonest_smallest ts))

  -- of two lists, one after the other
  pub soonest_append : (b : ℕ) (xs ys : List ℕ) → soonest utc b (xs ++ ys) ≡ soonest utc (soonest utc b xs) ys
  unfolding soonest
  soonest_append b [] ys = refl
  soonest_append b (x ∷ xs) ys = soonest_append (sooner utc b x) xs ys

  -- an end, if there is one; 0 is after no moment

  pub past_end : (best : ℕ) (u : Option ℕ) (ts : List ℕ) → soonest utc best (end_then u ts) ≡ soonest utc (sooner utc best (unwrap_or u 0)) ts
  unfolding soonest sooner
  past_end best None ts = rw (le-ltb utc 0 (omega arith))
  past_end best (Some e) ts = refl
