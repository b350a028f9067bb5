-- The walk by value holds the walk of the lists of a table.
use Rattle.std.proofs.Common.{◌≡◌, refl, sym, subst, ◌∙◌, ap, ℕ, ◌+◌, ◌*◌, ◌≤◌, List, length, take, length-take, add-one, arith}
use Rattle.model.specs.Lookups.{boundaries}
use Rattle.model.specs.Output.{moments_bytes}
use Rattle.model.specs.Rules.{Rules}
use Rattle.model.specs.Walk as W
use Rattle.model.proofs.Accepted.{count_le}
use Rattle.model.proofs.Whole.{whole}
use Rattle.word.proofs.Writes.{length_numbers}
use Rattle.table.specs.Layout.{lists_in}
use Rattle.lookups.specs.declared.Walk as O
use Rattle.lookups.specs.Transitions.{walk_owned}
use Rattle.lookups.proofs.Views.{few_zones, few_windows}
use Rattle.lookups.proofs.Walked.{few_boundaries, holds_the_walk}

-- limits under which a walk of 40 steps is allowed
abbrev wide : Rules
wide = record { zone_limit = 9; window_limit = 16 }

-- the walk by value: how many steps, how many moments it holds and which, and how many bytes they are written as
pub record WalkByValue (t : List ℕ) (start : ℕ) (w : O.Walk) : Type 0 where
  pub few : w.steps ≤ 40
  pub steps : w.steps ≡ (W.walk (lists_in t) start).steps
  pub room : w.steps + 1 ≤ length w.moments
  pub held : take (w.steps + 1) w.moments ≡ (W.walk (lists_in t) start).moments
  pub long : 8 * (w.steps + 1) ≡ length (moments_bytes (W.walk (lists_in t) start).moments)

owned : (t : List ℕ) (start : ℕ) → WalkByValue t start (walk_owned (W.walk (lists_in t) start))
unfolding W.different_later
owned t start =
    let l = lists_in t in
    let w = W.walk l start in
    let b = few_boundaries l (few_zones t) (few_windows t) in
    let c : W.different_later l start ≤ length (boundaries l) = count_le start (boundaries l) in
    let g = whole l wide start (omega arith) in
    let h : take (w.steps + 1) (walk_owned w).moments ≡ w.moments
    = ap (λ (k : ℕ). take k (walk_owned w).moments) (add-one w.steps) ∙ holds_the_walk t start in
    let n : length w.moments ≡ w.steps + 1 = omega (arith, g.counted) in
    record {
      few = omega (arith, g.few);
      steps = refl;
      room = omega (arith, length-take (w.steps + 1) (walk_owned w).moments, ap length h);
      held = h;
      long = omega (arith, length_numbers w.moments);
    }

pub walk_by_value : (t : List ℕ) (start : ℕ) (w : O.Walk) → w ≡ walk_owned (W.walk (lists_in t) start) → WalkByValue t start w
walk_by_value t start w e = subst (WalkByValue t start) (sym e) (owned t start)
