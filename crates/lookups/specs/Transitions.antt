-- The soonest of some moments, as it is found one by one; and a walk by value.
use Rattle.std.specs.Prelude.{cond, List, [], ◌∷◌, ◌++◌, ℕ, ◌-◌, min, eqb, ltb, length, take, replicate, Option, None, Some}
use Rattle.model.specs.Walk as M
use Rattle.lookups.specs.declared.Walk.{Walk}

-- the sooner of the best so far, 0 for none, and a moment, if that is after now
unfoldable pub sooner : ℕ → ℕ → ℕ → ℕ
sooner now best t = cond (ltb now t) (cond (eqb best 0) t (min best t)) best

-- the soonest of the best so far and the moments after now
unfoldable pub soonest : ℕ → ℕ → List ℕ → ℕ
soonest now best [] = best
soonest now best (t ∷ ts) = soonest now (sooner now best t) ts

-- a moment that was found, or none for 0
unfoldable pub moment_of : ℕ → Option ℕ
moment_of t = cond (eqb t 0) None (Some t)

module _ {A : Type 0} where
  -- a list cut or filled up to `n` entries
  abbrev pub padded : ℕ → A → List A → List A
  padded n blank xs = take n xs ++ replicate (n - length xs) blank

-- a walk by value: zeros stand after its last moment
abbrev pub walk_owned : M.Walk → Walk
walk_owned w = record { moments = padded 41 0 w.moments; steps = w.steps }
