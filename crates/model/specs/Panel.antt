-- What a panel shows: null exactly where the clock is unreliable or no window is usable, UTC and the zone's offset between windows, both
-- offsets inside one, and null once the windows have run out. The proofs stand in proofs/Panel.antt.
use Rattle.std.specs.Prelude.{true, false, [], ◌≡◌, ℕ, pos, ◌+ℤ◌, ◌*ℤ◌, None, Some}
use Rattle.model.specs.Lists.{Lists, Window}
use Rattle.model.specs.Answers.{answers}
use Rattle.model.specs.Lookups.{active_zone, active_windows, last_active_window, usable}
use Rattle.model.specs.Clock.{Reading, reliable, last_known}
use Rattle.model.specs.LocalTime.{held, local_time}

-- nothing to show: the clock is unreliable, or no window is usable at its moment
abbrev pub NothingToShow : Reading → Lists → Type 0
NothingToShow (last_known utc) l = Unit {0}
NothingToShow (reliable utc) l = usable l utc ≡ false

-- with a list store local time is null exactly where there is nothing to show
pub record NullExactly : Type 0 where
  pub only_then : (r : Reading) (l : Lists) → local_time r (Some l) ≡ answers None → NothingToShow r l
  pub always_then : (r : Reading) (l : Lists) → NothingToShow r l → local_time r (Some l) ≡ answers None

-- between windows (one is usable, none is active): UTC and the zone's offset alone, held
abbrev pub BetweenWindows : Type 0
BetweenWindows =
    (l : Lists) (utc : ℕ) → usable l utc ≡ true → active_windows l utc ≡ []
    → local_time (reliable utc) (Some l) ≡ answers (Some (held (pos utc +ℤ (active_zone l utc).offset *ℤ pos 1000000)))

-- run out (none is usable, so none is active either): null
abbrev pub RunOut : Type 0
RunOut =
    (l : Lists) (utc : ℕ) → usable l utc ≡ false
    → (active_windows l utc ≡ []) × (local_time (reliable utc) (Some l) ≡ answers None)

-- inside a window, which is then usable: UTC and both offsets, held
abbrev pub InsideAWindow : Type 0
InsideAWindow =
    (l : Lists) (utc : ℕ) (w : Window) → last_active_window l utc ≡ Some w
    → local_time (reliable utc) (Some l) ≡ answers (Some (held (pos utc +ℤ ((active_zone l utc).offset +ℤ w.offset) *ℤ pos 1000000)))
