-- What a panel shows, and when it is null.
use Rattle.std.proofs.Common.{Option, None, Some, Bool, true, false, cond, List, [], ◌∷◌, ◌≡◌, refl, sym, ap, ◌∙◌, ℕ, ℤ, pos, ◌+ℤ◌, ◌*ℤ◌}
use Rattle.std.proofs.Math.Bool.{and-false}
use Rattle.std.proofs.Math.IntN.{+ℤ_idr}
use Rattle.model.specs.Basics.{keep, any, last}
use Rattle.model.specs.Lists.{Lists, Window}
use Rattle.model.specs.Answers.{Answer, answers}
use Rattle.model.specs.Lookups.{active_zone, active_windows, last_active_window, usable, offset_of, is_active, is_usable}
use Rattle.model.specs.Clock.{Reading, reliable, last_known}
use Rattle.model.specs.LocalTime.{held, or_zero, combined_offset, shown, local_time}
use Rattle.model.specs.Panel.{NothingToShow, NullExactly, BetweenWindows, RunOut, InsideAWindow}
use Rattle.model.proofs.Facts.{by_test}

-- a choice between a value and none, by its test
none_only : (b : Bool) (m : ℕ) → ◌≡◌ {A = Answer (Option ℕ)} (answers (cond b (Some m) None)) (answers None) → b ≡ false
none_only true m e = cc
none_only false m e = refl

only : (r : Reading) (l : Lists) → local_time r (Some l) ≡ answers None → NothingToShow r l
unfolding local_time
only (last_known utc) l e = tt
only (reliable utc) l e = none_only (usable l utc) (shown l utc) e

always : (r : Reading) (l : Lists) → NothingToShow r l → local_time r (Some l) ≡ answers None
unfolding local_time
always (last_known utc) l e = refl
always (reliable utc) l e = rw e refl

pub null_exactly : NullExactly
null_exactly = record { only_then = only; always_then = always }

-- where a window is usable, what is shown
shows : (l : Lists) (utc : ℕ) → usable l utc ≡ true → local_time (reliable utc) (Some l) ≡ answers (Some (shown l utc))
unfolding local_time
shows l utc e = rw e refl

-- by what the last active window is
shown_with : (l : Lists) (utc : ℕ) (o : Option Window) → last_active_window l utc ≡ o
    → shown l utc ≡ held (pos utc +ℤ ((active_zone l utc).offset +ℤ or_zero (offset_of o)) *ℤ pos 1000000)
unfolding shown combined_offset
shown_with l utc o e = rw e refl

-- where no window is active, there is no last one
no_last : (l : Lists) (utc : ℕ) → active_windows l utc ≡ [] → last_active_window l utc ≡ None
unfolding last_active_window last
no_last l utc e = rw e refl

pub between_windows : BetweenWindows
between_windows l utc u e =
    shows l utc u
    ∙ ap (λ (m : ℕ). answers (Some m)) (shown_with l utc None (no_last l utc e)
    ∙ ap (λ (z : ℤ). held (pos utc +ℤ z *ℤ pos 1000000)) (+ℤ_idr (active_zone l utc).offset))

-- where no window is usable, none is active
none_active : (utc : ℕ) (ws : List Window) → any (is_usable utc) ws ≡ false → keep (is_active utc) ws ≡ []
unfolding keep any
none_active utc [] e = refl
none_active utc (w ∷ ws) e =
    by_test (is_usable utc w)
    (λ t. let z = rw t at e in cc)
    (λ t. rw (t, and-false) (none_active utc ws (rw t at e)))

no_active : (l : Lists) (utc : ℕ) → usable l utc ≡ false → active_windows l utc ≡ []
unfolding usable
no_active l utc u = none_active utc l.windows u

pub run_out : RunOut
run_out l utc u = (no_active l utc u, always (reliable utc) l u)

-- an active window is usable
usable_in : (l : Lists) (utc : ℕ) (w : Window) → last_active_window l utc ≡ Some w → usable l utc ≡ true
usable_in l utc w e =
    by_test (usable l utc) (λ t. t)
    (λ t. let z : ◌≡◌ {A = Option Window} None (Some w) = sym (no_last l utc (no_active l utc t)) ∙ e in cc)

pub inside_a_window : InsideAWindow
inside_a_window l utc w e = shows l utc (usable_in l utc w e) ∙ ap (λ (m : ℕ). answers (Some m)) (shown_with l utc (Some w) e)
