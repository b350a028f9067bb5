-- Lists at the edges of the rules.
use Rattle.std.specs.Prelude.{true, false, [], ◌∷◌, refl, ℕ, pos, neg_ℤ, replicate, None, Some}
use Rattle.model.specs.declared.Refusal.TheVariants.{ConstraintError, ResourceExhausted}
use Rattle.model.specs.Basics.{top}
use Rattle.model.specs.Lists.{Zone}
use Rattle.model.specs.Rules.{Rules, allowed, device, largest, accepted, turned_down, demand, and_then, test_from, zone_rule, window_rule, test_zones, test_windows}
use Rattle.model.specs.Table.{zone, window}
use Rattle.model.specs.Examples.Cases.{Gives, ◌gives◌}

abbrev limits : ℕ → ℕ → Rules
limits z w = record { zone_limit = z; window_limit = w }

-- 1 and 8 zones, 1 and 16 windows; one less and one more of each
limit_pairs : Gives allowed
    (limits 1 1 gives true ∷ limits 8 16 gives true ∷ limits 0 1 gives false ∷ limits 9 1 gives false ∷ limits 1 0 gives false ∷ limits 1 17 gives false ∷ [])
unfolding allowed
limit_pairs = refl

abbrev named : ℕ → Zone
named length = record { offset = pos 0; start = 0; name = Some (replicate length 65) }

-- at limits 2 and 2: no zone, as many as the limit, one more; which failure comes first; starts; names of 64 and 65 bytes
device_zones : Gives (test_zones device)
    ([] gives accepted
    ∷ (zone (pos 0) 0 ∷ zone (pos 0) 1 ∷ []) gives accepted
    ∷ (zone (pos 0) 0 ∷ zone (pos 0) top ∷ []) gives accepted
    ∷ (zone (pos 0) 0 ∷ zone (pos 0) 6 ∷ zone (pos 0) 7 ∷ []) gives turned_down ResourceExhausted
    ∷ (zone (pos 0) 0 ∷ zone (pos 0) 6 ∷ zone (pos 0) 6 ∷ []) gives turned_down ResourceExhausted
    ∷ (zone (pos 0) 5 ∷ zone (pos 0) 6 ∷ zone (pos 0) 7 ∷ []) gives turned_down ConstraintError
    ∷ (zone (pos 0) 0 ∷ zone (pos 0) 0 ∷ []) gives turned_down ConstraintError
    ∷ (named 64 ∷ []) gives accepted
    ∷ (named 65 ∷ []) gives turned_down ConstraintError
    ∷ [])
unfolding demand and_then test_from zone_rule test_zones
device_zones = refl

-- a third start that is equal, lower, and higher
largest_zones : Gives (test_zones largest)
    ((zone (pos 0) 0 ∷ zone (pos 0) 10 ∷ zone (pos 0) 10 ∷ []) gives turned_down ConstraintError
    ∷ (zone (pos 0) 0 ∷ zone (pos 0) 10 ∷ zone (pos 0) 9 ∷ []) gives turned_down ConstraintError
    ∷ (zone (pos 0) 0 ∷ zone (pos 0) 10 ∷ zone (pos 0) 11 ∷ []) gives accepted
    ∷ [])
unfolding demand and_then test_from zone_rule test_zones
largest_zones = refl

-- windows: none, after an open one, an equal start, a start at and below the end before, an end at and below the start, every offset, both ends of time
device_windows : Gives (test_windows device)
    ([] gives accepted
    ∷ (window (pos 0) 1 None ∷ window (pos 0) 5 (Some 6) ∷ []) gives turned_down ConstraintError
    ∷ (window (pos 0) 5 (Some 6) ∷ window (pos 0) 5 (Some 9) ∷ []) gives turned_down ConstraintError
    ∷ (window (pos 0) 5 (Some 6) ∷ window (pos 0) 6 None ∷ []) gives accepted
    ∷ (window (pos 0) 5 (Some 7) ∷ window (pos 0) 6 None ∷ []) gives turned_down ConstraintError
    ∷ (window (pos 0) 1000 (Some 1000) ∷ []) gives turned_down ConstraintError
    ∷ (window (pos 0) 1001 (Some 1000) ∷ []) gives turned_down ConstraintError
    ∷ (window (neg_ℤ (pos 2147483648)) 0 (Some top) ∷ window (pos 2147483647) top None ∷ []) gives accepted
    ∷ (window (pos 0) 0 (Some 1) ∷ window (pos 0) 1 (Some 2) ∷ window (pos 0) 2 (Some 3) ∷ []) gives turned_down ResourceExhausted
    ∷ [])
unfolding demand and_then test_from window_rule test_windows
device_windows = refl
