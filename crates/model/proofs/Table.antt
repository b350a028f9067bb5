-- Every row of the table holds, by computation.
use Rattle.std.proofs.Common.{◌≡◌, refl}
use Rattle.model.specs.Basics.{keep, any, first, last, least_of, smallest}
use Rattle.model.specs.Lists.{Lists}
use Rattle.model.specs.Rules.{device, accepted, demand, and_then, test_from, zone_rule, window_rule, test_zones, test_windows}
use Rattle.model.specs.Lookups.{active_zone, last_active_window, usable, zone_starts, window_bounds, next_transition}
use Rattle.model.specs.LocalTime.{combined_offset, shown, local_time}
use Rattle.model.specs.Timer.{look}
use Rattle.model.specs.Retries.{refresh, attempt_of}
use Rattle.model.specs.Demand3.{Accepted}
use Rattle.model.specs.Table.{waits, EveryRowHolds}

taken : {l : Lists} → test_zones device l.zones ≡ accepted → test_windows device l.windows ≡ accepted → Accepted device l
taken zones windows = record { zones = zones; windows = windows }

-- a row, and the rows after it
infixr 60 ◌▸◌
◌▸◌ : {A B : Type 0} → A → B → A × B
a ▸ b = (a, b)

pub every_row : EveryRowHolds
unfolding keep any first last least_of smallest demand and_then test_from zone_rule window_rule test_zones test_windows active_zone last_active_window usable zone_starts window_bounds next_transition combined_offset shown local_time look refresh attempt_of waits
every_row =
    (taken refl refl, λ now. (refl, refl, refl))
    ▸ (taken refl refl, refl) ▸ (taken refl refl, refl) ▸ (taken refl refl, refl) ▸ (taken refl refl, refl) ▸ (taken refl refl, refl)
    ▸ refl ▸ refl ▸ refl ▸ refl ▸ refl ▸ refl ▸ refl ▸ refl ▸ refl ▸ refl ▸ refl
    ▸ (taken refl refl, λ timer. refl)
    ▸ refl ▸ tt
