-- When SetTimeZone and SetDSTOffset accept a list, and what they turn it down with.
use Rattle.std.specs.Prelude.{Bool, true, false, not, ◌&&◌, List, [], ◌∷◌, ℕ, suc, leb, ltb, eqb, ℤ, pos, neg_ℤ, length, Option, None, Some, is_some}
use Rattle.std.specs.Bool.{beq}
use Rattle.std.specs.Int.Signed.{le_z}
use Rattle.model.specs.declared.Refusal.{Refusal}
use Rattle.model.specs.declared.Refusal.TheVariants.{ConstraintError, ResourceExhausted}
use Rattle.model.specs.Lists.{Name, Zone, Window}

-- ## Limits

-- what a store is made with: how many zones and how many windows it takes
pub record Rules : Type 0 where
  pub zone_limit : ℕ
  pub window_limit : ℕ

-- limits that a store can be made with: 1 to 8 zones and 1 to 16 windows
unfoldable pub allowed : Rules → Bool
allowed r = leb 1 r.zone_limit && (leb r.zone_limit 8 && (leb 1 r.window_limit && leb r.window_limit 16))

-- the device's limits
abbrev pub device : Rules
device = record { zone_limit = 2; window_limit = 2 }

-- the largest limits, which the programs use
abbrev pub largest : Rules
largest = record { zone_limit = 8; window_limit = 16 }

-- ## Verdicts

-- what a test says: accepted, or turned down for a cause
pub data Verdict : Type 0 where
  accepted : Verdict
  turned_down : Refusal → Verdict

-- `demand test r rest`: turned down with `r` where the test fails, else what `rest` says
unfoldable pub demand : Bool → Refusal → Verdict → Verdict
demand true r rest = rest
demand false r rest = turned_down r

-- the first verdict decides where it turns down; else the second
unfoldable pub and_then : Verdict → Verdict → Verdict
and_then accepted rest = rest
and_then (turned_down cause) rest = turned_down cause

-- Entry by entry in order, the first failure decides: an entry whose index is the limit is ResourceExhausted, before its rule is asked.
-- The rule sees the entry's index, the entry before it and the entry.
module _ {A : Type 0} (limit : ℕ) (rule : ℕ → Option A → A → Verdict) where
  unfoldable pub test_from : ℕ → Option A → List A → Verdict
  test_from index before [] = accepted
  test_from index before (x ∷ xs) =
      demand (not (eqb index limit)) ResourceExhausted (and_then (rule index before x) (test_from (suc index) (Some x) xs))

-- ## Zones

-- a zone starts at 0 exactly where it is the first
abbrev pub zero_exactly_at_first : ℕ → Zone → Bool
zero_exactly_at_first index z = beq (eqb index 0) (eqb z.start 0)

-- it starts after the zone before it
abbrev pub above_the_one_before : Option Zone → Zone → Bool
above_the_one_before None z = true
above_the_one_before (Some before) z = ltb before.start z.start

-- its offset lies from 12 hours west to 14 hours east, both included
abbrev pub offset_in_range : ℤ → Bool
offset_in_range o = le_z (neg_ℤ (pos 43200)) o && le_z o (pos 50400)

-- its name, if it has one, is at most 64 bytes long
abbrev pub name_fits : Option Name → Bool
name_fits None = true
name_fits (Some n) = leb (length n) 64

-- the rule for one zone of SetTimeZone
unfoldable pub zone_rule : ℕ → Option Zone → Zone → Verdict
zone_rule index before z =
    demand (zero_exactly_at_first index z) ConstraintError
    (demand (above_the_one_before before z) ConstraintError
    (demand (offset_in_range z.offset) ConstraintError
    (demand (name_fits z.name) ConstraintError accepted)))

-- what SetTimeZone says of a list
unfoldable pub test_zones : Rules → List Zone → Verdict
test_zones r zs = test_from r.zone_limit zone_rule 0 None zs

-- ## Windows (`validate_dst_offset`); every offset passes

-- the window before has an end: nothing comes after an open one
abbrev pub not_after_open : Option Window → Bool
not_after_open None = true
not_after_open (Some before) = is_some before.until

-- the window starts after the start before it
abbrev pub above_the_start_before : Option Window → Window → Bool
above_the_start_before None w = true
above_the_start_before (Some before) w = ltb before.start w.start

-- a moment is at or past an end; an open window's end never comes
abbrev pub reached : ℕ → Option ℕ → Bool
reached moment None = false
reached moment (Some e) = leb e moment

-- the window does not start before the end before it
abbrev pub not_below_the_end_before : Option Window → Window → Bool
not_below_the_end_before None w = true
not_below_the_end_before (Some before) w = reached w.start before.until

-- the window starts before its own end
abbrev pub below_its_own_end : Window → Bool
below_its_own_end w = not (reached w.start w.until)

-- the rule for one window of SetDSTOffset
unfoldable pub window_rule : ℕ → Option Window → Window → Verdict
window_rule index before w =
    demand (not_after_open before) ConstraintError
    (demand (above_the_start_before before w) ConstraintError
    (demand (not_below_the_end_before before w) ConstraintError
    (demand (below_its_own_end w) ConstraintError accepted)))

-- what SetDSTOffset says of a list
unfoldable pub test_windows : Rules → List Window → Verdict
test_windows r ws = test_from r.window_limit window_rule 0 None ws
