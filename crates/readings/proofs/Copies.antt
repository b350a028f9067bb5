-- What is copied of a walk, and a zone whose name has no room.
use Rattle.std.proofs.Common.{true, false, cond, ◌≡◌, ℕ, suc, ◌+◌, ◌*◌, List, length, take, sym, ap, ◌∙◌, arith, leb-true, leb-false, le-ltb, lt-ltb}
use Rattle.model.specs.Bytes.{bytes, all_bytes}
use Rattle.model.specs.Output.{too_short, copied_over, moments_bytes}
use Rattle.model.specs.Walk.{walk}
use Rattle.word.specs.Place.{fits_at, placed}
use Rattle.word.proofs.Writes.{placed_front, length_numbers}
use Rattle.table.specs.Layout.{lists_in}
use Rattle.lookups.specs.declared.Walk as O
use Rattle.lookups.specs.Transitions.{walk_owned}
use Rattle.lookups.proofs.Walked.{holds_the_walk}

module _ (t : List ℕ) (start : ℕ) (w : O.Walk) (moments : List ℕ) (e : w ≡ walk_owned (walk (lists_in t) start)) (h : moments ≡ take (suc w.steps) w.moments) where
  walked_is : moments_bytes moments ≡ moments_bytes (walk (lists_in t) start).moments
  walked_is = ap moments_bytes (h ∙ ap (λ (o : O.Walk). take (suc o.steps) o.moments) e ∙ holds_the_walk t start)

  -- the moments have room where their bytes fit
  pub walk_roomy : (out : List ℕ) → fits_at out 0 (8 * length moments) ≡ true → too_short (length out) (moments_bytes (walk (lists_in t) start).moments) ≡ false
  walk_roomy out f = ap (too_short (length out)) (sym walked_is) ∙ le-ltb (length out) _ (omega (arith, leb-true (0 + 8 * length moments) (length out) f, length_numbers moments))

  pub walk_short : (out : List ℕ) → fits_at out 0 (8 * length moments) ≡ false → too_short (length out) (moments_bytes (walk (lists_in t) start).moments) ≡ true
  walk_short out f = ap (too_short (length out)) (sym walked_is) ∙ lt-ltb (length out) _ (omega (arith, leb-false (0 + 8 * length moments) (length out) f, length_numbers moments))

  -- what is written of them
  pub walk_placed : (out : List ℕ) → placed out 0 (all_bytes (λ m. bytes 8 m) moments)
      ≡ cond (too_short (length out) (moments_bytes (walk (lists_in t) start).moments)) out (copied_over (moments_bytes (walk (lists_in t) start).moments) out)
  walk_placed out = placed_front out (moments_bytes moments) ∙ ap (λ (bs : List ℕ). cond (too_short (length out) bs) out (copied_over bs out)) walked_is

  pub walk_steps : w.steps ≡ (walk (lists_in t) start).steps
  walk_steps = ap (λ (o : O.Walk). o.steps) e
