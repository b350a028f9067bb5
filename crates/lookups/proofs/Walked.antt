-- The walk so far: the moments behind, and the walk that is left.
use Rattle.std.proofs.Common.{◌≡◌, refl, sym, ◌∙◌, ap, ℕ, zero, suc, ◌+◌, ◌*◌, ◌-◌, ◌≤◌, ◌<◌, List, [], ◌∷◌, ◌++◌, length, take, set, replicate, length-append, take_all, take_at, arith, Option, None, Some}
use Rattle.std.proofs.Math.Seq.{append_snoc}
use Rattle.std.proofs.lemmas.List.{set_at}
use Rattle.model.specs.Lists.{Zone, Window, Lists}
use Rattle.model.specs.Lookups.{boundaries, end_then, zone_starts, window_bounds, next_transition}
use Rattle.model.specs.Rules.{Rules}
use Rattle.model.specs.Walk as M
use Rattle.model.proofs.Facts.{fewer_left, first_after}
use Rattle.model.proofs.Accepted.{count_le}
use Rattle.model.proofs.Whole.{whole}
use Rattle.table.specs.Layout.{lists_in}
use Rattle.lookups.specs.declared.Walk.{Walk}
use Rattle.lookups.specs.Transitions.{padded}
use Rattle.lookups.specs.Laws.{HoldsTheWalk}
use Rattle.lookups.proofs.Views.{few_zones, few_windows}

-- ## How many boundaries there are

with_end : (u : Option ℕ) (bs : List ℕ) (n : ℕ) → length bs ≤ 2 * n → suc (length (end_then u bs)) ≤ 2 * suc n
with_end None bs n h = omega arith
with_end (Some e) bs n h = omega arith

length_bounds : (ws : List Window) → length (window_bounds ws) ≤ 2 * length ws
unfolding window_bounds
length_bounds [] = omega arith
length_bounds (w ∷ ws) = with_end w.until (window_bounds ws) (length ws) (length_bounds ws)

length_starts : (zs : List Zone) → length (zone_starts zs) ≡ length zs
unfolding zone_starts
length_starts [] = refl
length_starts (z ∷ zs) = ap suc (length_starts zs)

pub few_boundaries : (l : Lists) → length l.zones ≤ 8 → length l.windows ≤ 16 → length (boundaries l) ≤ 40
few_boundaries l h k =
    omega (arith, length-append (zone_starts l.zones) (window_bounds l.windows), length_starts l.zones, length_bounds l.windows)

-- ## Moments behind

-- a walk with moments before it
unfoldable pub behind : List ℕ → M.Walk → M.Walk
behind [] w = w
behind (x ∷ xs) w = M.step_before x (behind xs w)

behind_more : (xs : List ℕ) (x : ℕ) (w : M.Walk) → behind (xs ++ (x ∷ [])) w ≡ behind xs (M.step_before x w)
unfolding behind
behind_more [] x w = refl
behind_more (y ∷ xs) x w = ap (M.step_before y) (behind_more xs x w)

behind_standing : (xs : List ℕ) (s : ℕ) → behind xs (M.standing s) ≡ record { moments = xs ++ (s ∷ []); steps = length xs }
unfolding behind
behind_standing [] s = refl
behind_standing (y ∷ xs) s = ap (M.step_before y) (behind_standing xs s)

-- `n` zeros
abbrev zeros : ℕ → List ℕ
zeros n = replicate n 0

zeros_more : (n : ℕ) → 0 < n → zeros n ≡ 0 ∷ zeros (n - 1)
zeros_more zero h = absurd (omega arith)
zeros_more (suc n) h = let e : suc n - 1 ≡ n = omega arith in rw e

abbrev by_value : List ℕ → ℕ → Walk
by_value out steps = record { moments = out; steps = steps }

-- a walk by value with room for `most` steps
abbrev pub owned : ℕ → M.Walk → Walk
owned most w = record { moments = padded (suc most) 0 w.moments; steps = w.steps }

owned_is : (most : ℕ) (out ms : List ℕ) (steps n : ℕ) (w : M.Walk) → out ≡ padded (suc most) 0 ms → steps ≡ n → w ≡ record { moments = ms; steps = n }
    → record { moments = out; steps = steps } ≡ owned most w
owned_is most out ms steps n w o e q = rw (o, e, q)

module _ (l : Lists) where
  step_less : (s m : ℕ) → next_transition l s ≡ Some m → M.different_later l s ≡ suc (M.different_later l m)
  unfolding next_transition M.different_later
  step_less s m e = fewer_left s m (boundaries l) (first_after s m (boundaries l) e)

  stands : (fuel s : ℕ) → next_transition l s ≡ None → M.walk_from l fuel s ≡ M.standing s
  unfolding M.walk_from
  stands zero s e = refl
  stands (suc fuel) s e = rw e

  goes_on_lem : (fuel s m : ℕ) → next_transition l s ≡ Some m → M.walk_from l (suc fuel) s ≡ M.step_before s (M.walk_from l fuel m)
  unfolding M.walk_from
  goes_on_lem fuel s m e = rw e

  module _ (most start : ℕ) where
    -- after `steps` steps the walk stands at `at`, and there is room for all that are left
    pub record Sofar (out : List ℕ) (steps at : ℕ) : Type 0 where
      pub past : List ℕ
      pub count : length past ≡ steps
      pub room : ℕ
      pub left : steps + room ≡ most
      pub is : out ≡ past ++ (at ∷ zeros room)
      pub few : M.different_later l at ≤ room
      pub fuel : ℕ
      pub enough : M.different_later l at ≤ fuel
      pub whole : M.walk l start ≡ behind past (M.walk_from l fuel at)

    pub sofar_start : length (boundaries l) ≤ most → Sofar (start ∷ zeros most) 0 start
    unfolding M.walk M.different_later behind
    sofar_start h =
        let c = count_le start (boundaries l) in
        record {
          past = [];
          count = refl;
          room = most;
          left = omega arith;
          is = refl;
          few = omega arith;
          fuel = length (boundaries l);
          enough = c;
          whole = refl;
        }

    more : (out : List ℕ) (steps at m : ℕ) (s : Sofar out steps at) → next_transition l at ≡ Some m → (fuel : ℕ) → s.fuel ≡ suc fuel
        → Sofar (set out (steps + 1) m) (steps + 1) m
    more out steps at m s e fuel q =
        let f = step_less at m e in
        let ms = s.past ++ (at ∷ []) in
        let n : length ms ≡ steps + 1 = omega (arith, length-append s.past (at ∷ []), s.count) in
        let o : out ≡ ms ++ (0 ∷ zeros (s.room - 1)) =
        s.is ∙ ap (λ (r : List ℕ). s.past ++ (at ∷ r)) (zeros_more s.room (omega (arith, s.few))) ∙ sym (append_snoc s.past at (0 ∷ zeros (s.room - 1))) in
        record {
          past = ms;
          count = n;
          room = s.room - 1;
          left = omega (arith, s.left, s.few);
          is = ap (λ (r : List ℕ). set r (steps + 1) m) o ∙ set_at ms 0 (zeros (s.room - 1)) m (steps + 1) n;
          few = omega (arith, s.few);
          fuel = fuel;
          enough = omega (arith, s.enough);
          whole = s.whole ∙ ap (λ (k : ℕ). behind s.past (M.walk_from l k at)) q ∙ ap (behind s.past) (goes_on_lem fuel at m e) ∙ sym (behind_more s.past at (M.walk_from l fuel m));
        }

    pub sofar_more : (out : List ℕ) (steps at m : ℕ) → Sofar out steps at → next_transition l at ≡ Some m → Sofar (set out (steps + 1) m) (steps + 1) m
    sofar_more out steps at m s e = by_fuel s.fuel refl
      where
        by_fuel : (k : ℕ) → s.fuel ≡ k → Sofar (set out (steps + 1) m) (steps + 1) m
        by_fuel zero q = let f = step_less at m e in absurd (omega (arith, s.enough))
        by_fuel (suc k) q = more out steps at m s e k q

    pub sofar_end : (out : List ℕ) (steps at : ℕ) → Sofar out steps at → next_transition l at ≡ None → record { moments = out; steps = steps } ≡ owned most (M.walk l start)
    sofar_end out steps at s e =
        let ms = s.past ++ (at ∷ []) in
        let n : length ms ≡ steps + 1 = omega (arith, length-append s.past (at ∷ []), s.count) in
        let z : s.room ≡ suc most - length ms = omega (arith, s.left) in
        let t : take (suc most) ms ≡ ms = take_all (suc most) ms (omega (arith, s.left)) in
        let o : out ≡ padded (suc most) 0 ms =
        s.is ∙ sym (append_snoc s.past at (zeros s.room))
        ∙ ap (λ (k : ℕ). ms ++ zeros k) z ∙ ap (λ (r : List ℕ). r ++ zeros (suc most - length ms)) (sym t) in
        let w : M.walk l start ≡ record { moments = ms; steps = length s.past } =
        s.whole ∙ ap (behind s.past) (stands s.fuel at e) ∙ behind_standing s.past at in
        owned_is most out ms steps (length s.past) (M.walk l start) o (sym s.count) w

    -- where there is no room none is left
    sofar_full : (out : List ℕ) (steps at : ℕ) → Sofar out steps at → most ≤ steps → next_transition l at ≡ None
    sofar_full out steps at s h = by_next (next_transition l at) refl
      where
        by_next : (o : Option ℕ) → next_transition l at ≡ o → o ≡ None
        by_next None e = refl
        by_next (Some m) e = let f = step_less at m e in absurd (omega (arith, s.few, s.left))

    -- after the most steps the walk is over
    pub sofar_done : (out : List ℕ) (steps at : ℕ) → Sofar out steps at → most ≡ steps → record { moments = out; steps = most } ≡ owned most (M.walk l start)
    sofar_done out steps at s e =
        ap (λ (n : ℕ). by_value out n) e ∙ sofar_end out steps at s (sofar_full out steps at s (omega arith))

-- ## Nothing is cut off

module _ {A : Type 0} where
  -- a list that fits stands at the front of itself filled up
  padded_front : (n : ℕ) (blank : A) (xs : List A) (k : ℕ) → length xs ≡ k → k ≤ n → take k (padded n blank xs) ≡ xs
  padded_front n blank xs k e h =
      ap (λ (r : List A). take k (r ++ replicate (n - length xs) blank)) (take_all n xs (omega arith)) ∙ take_at xs (replicate (n - length xs) blank) k e

-- limits under which a walk of 40 steps is allowed
abbrev wide : Rules
wide = record { zone_limit = 9; window_limit = 16 }

pub holds_the_walk : HoldsTheWalk
unfolding M.different_later
holds_the_walk s start =
    let l = lists_in s in
    let b = few_boundaries l (few_zones s) (few_windows s) in
    let c : M.different_later l start ≤ length (boundaries l) = count_le start (boundaries l) in
    let g = whole l wide start (omega arith) in
    padded_front 41 0 (M.walk l start).moments (suc (M.walk l start).steps) g.counted (omega (arith, g.few))
