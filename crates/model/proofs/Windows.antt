-- On accepted windows at most one is active, so the first active one is the last.
use Rattle.std.proofs.Common.{Option, None, Some, true, not, List, [], ◌∷◌, ◌≡◌, refl, ℕ, suc, ◌≤◌, ◌<◌, arith, ltb-true, leb-true, leb-false, lt-ltb, leb, length}
use Rattle.std.proofs.lemmas.Bool.{and_parts, lt-leb, not-true}
use Rattle.model.specs.Basics.{keep, first, last}
use Rattle.model.specs.Lists.{Window}
use Rattle.model.specs.Rules.{accepted, test_from, window_rule, reached, test_windows}
use Rattle.model.specs.Lookups.{not_ended, is_active, active_window, last_active_window}
use Rattle.model.specs.Claims.{AtMostOneActive}
use Rattle.model.proofs.Facts.{by_test}
use Rattle.model.proofs.Accepted.{entry, window_meets}

-- a window that starts at or after the end `u`, which is still to come, starts later
starts_later : (now start : ℕ) (u : Option ℕ) → reached start u ≡ true → not_ended now u ≡ true → now < start
starts_later now start None h n = cc
starts_later now start (Some e) h n = let a = leb-true e start h in let b = ltb-true now e n in omega arith

-- and has not ended
not_ended_lem : (now start : ℕ) (u : Option ℕ) → now < start → not (reached start u) ≡ true → not_ended now u ≡ true
not_ended_lem now start None h b = refl
not_ended_lem now start (Some e) h b = let a = leb-false e start (not-true _ b) in lt-ltb now e (omega arith)

-- a list of at most one entry has one end
one_end : {A : Type 0} (xs : List A) → length xs ≤ 1 → first xs ≡ last xs
unfolding first last
one_end [] h = refl
one_end (x ∷ []) h = refl
one_end (x ∷ (y ∷ xs)) h = absurd (omega arith)

module _ (limit now : ℕ) where
  -- after a window that has not ended none is active
  none_after : (index : ℕ) (p : Window) (ws : List Window) → test_from limit window_rule index (Some p) ws ≡ accepted → not_ended now p.until ≡ true
      → keep (is_active now) ws ≡ []
  unfolding keep
  none_after index p [] h n = refl
  none_after index p (w ∷ ws) h n =
      let e = entry limit window_rule index (Some p) w ws h in
      let a = window_meets index (Some p) w e.meets in
      let lt = starts_later now w.start p.until a.not_below n in
      rw (lt-leb w.start now lt) (none_after (suc index) w ws e.rest (not_ended_lem now w.start w.until lt a.proper))

  one : (index : ℕ) (before : Option Window) (ws : List Window) → test_from limit window_rule index before ws ≡ accepted
      → length (keep (is_active now) ws) ≤ 1
  unfolding keep
  one index before [] h = omega arith
  one index before (w ∷ ws) h =
      let e = entry limit window_rule index before w ws h in
      by_test (is_active now w)
      (λ t. rw (t, none_after (suc index) w ws e.rest (and_parts (leb w.start now) _ t).1) (omega arith))
      (λ f. rw f (one (suc index) (Some w) ws e.rest))

pub at_most_one : AtMostOneActive
unfolding active_window last_active_window test_windows
at_most_one r l now h =
    let k = one r.window_limit now 0 None l.windows h in
    record { few = k; same = one_end (keep (is_active now) l.windows) k }
