-- The moments at the edge, P1 to P12, as rows of one table under one claim. Limits 2 and 2, clock reliable.
use Rattle.std.specs.Prelude.{Bool, false, List, [], ◌∷◌, ◌≡◌, ℕ, zero, suc, ℤ, pos, neg_ℤ, Option, None, Some}
use Rattle.model.specs.declared.Refusal.TheVariants.{ConstraintError, ResourceExhausted}
use Rattle.model.specs.Basics.{All}
use Rattle.model.specs.Lists.{Zone, Window, Lists, empty}
use Rattle.model.specs.Answers.{answers}
use Rattle.model.specs.Rules.{device, Verdict, accepted, turned_down, test_zones, test_windows}
use Rattle.model.specs.Lookups.{ZoneNow, active_zone, usable}
use Rattle.model.specs.Clock.{Clock, fresh, with_trusted, reliable}
use Rattle.model.specs.LocalTime.{local_time}
use Rattle.model.specs.Timer.{Timer, Sleep, at_most, look}
use Rattle.model.specs.Demand3.{Accepted}
use Rattle.model.specs.Retries.{Client, new_client, failed, attempt, Next, wait_for}

-- ## The kinds of rows

pub data Row : Type 0 where
  -- the device accepts these lists; at every moment they show this zone, are usable or not, and give this LocalTime
  always : Lists → ZoneNow → Bool → Option ℕ → Row
  -- the device accepts these lists, and at this UTC they give this LocalTime
  local_at : Lists → ℕ → Option ℕ → Row
  -- SetTimeZone says this of these zones
  zones_are : List Zone → Verdict → Row
  -- SetDSTOffset says this of these windows
  windows_are : List Window → Verdict → Row
  -- the device accepts these lists, and with them at this moment the timer sleeps so, whatever it saw before
  sleeps_at : Lists → ℕ → Sleep → Row
  -- with this period, what comes after each of five attempts that fail in a row
  waits_are : ℕ → List Next → Row

-- a clock that has a trusted source
abbrev pub sourced : Clock
sourced = with_trusted (fresh 0) (Some (record { fabric = 1; node = 1; endpoint = 0 }))

-- what comes after each of so many attempts that fail
unfoldable pub waits : ℕ → Client → List Next
waits zero c = []
waits (suc n) c = (attempt c sourced failed 0).next ∷ waits n (attempt c sourced failed 0).client

-- what a row claims
abbrev pub Holds : Row → Type 0
Holds (always l zone u local) =
    Accepted device l × ((now : ℕ) → (active_zone l now ≡ zone) × (usable l now ≡ u) × (local_time (reliable now) (Some l) ≡ answers local))
Holds (local_at l utc local) = Accepted device l × (local_time (reliable utc) (Some l) ≡ answers local)
Holds (zones_are zs v) = test_zones device zs ≡ v
Holds (windows_are ws v) = test_windows device ws ≡ v
Holds (sleeps_at l now sleep) = Accepted device l × ((timer : Timer) → (look timer (Some l) (reliable now)).sleep ≡ sleep)
Holds (waits_are period ns) = waits 5 (new_client period) ≡ ns

-- ## Short words for the rows

abbrev pub zone : ℤ → ℕ → Zone
zone offset start = record { offset = offset; start = start; name = None }

abbrev pub window : ℤ → ℕ → Option ℕ → Window
window offset start until = record { offset = offset; start = start; until = until }

-- one hour of summer time
abbrev pub hour : ℕ → ℕ → Window
hour start until = window (pos 3600) start (Some until)

abbrev pub windows : List Window → Lists
windows ws = record { zones = []; windows = ws }

-- ## The table

-- a row under its number
infix 90 ◌is_row◌
pub data Entry : Type 0 where
  ◌is_row◌ : ℕ → Row → Entry

abbrev pub table : List Entry
table =
    1 is_row always empty (record { offset = pos 0; name = None }) false None
    ∷ 2 is_row local_at (windows (window (pos 3600) 1000 None ∷ [])) 500 (Some 500)
    ∷ 3 is_row local_at (windows (window (pos 3600) 1000 None ∷ [])) 1000 (Some 3600001000)
    ∷ 4 is_row local_at (windows (hour 1000 2000 ∷ [])) 1999 (Some 3600001999)
    ∷ 4 is_row local_at (windows (hour 1000 2000 ∷ [])) 2000 None
    ∷ 5 is_row local_at (record { zones = zone (neg_ℤ (pos 43200)) 0 ∷ []; windows = window (pos 0) 0 None ∷ [] }) 1 (Some 0)
    ∷ 6 is_row zones_are (zone (pos 50400) 0 ∷ []) accepted
    ∷ 6 is_row zones_are (zone (neg_ℤ (pos 43200)) 0 ∷ []) accepted
    ∷ 6 is_row zones_are (zone (pos 50401) 0 ∷ []) (turned_down ConstraintError)
    ∷ 6 is_row zones_are (zone (neg_ℤ (pos 43201)) 0 ∷ []) (turned_down ConstraintError)
    ∷ 7 is_row windows_are (hour 1000 2000 ∷ hour 2000 3000 ∷ []) accepted
    ∷ 7 is_row windows_are (hour 1000 2000 ∷ hour 1999 3000 ∷ []) (turned_down ConstraintError)
    ∷ 8 is_row windows_are (hour 1000 1000 ∷ []) (turned_down ConstraintError)
    ∷ 9 is_row windows_are (hour 1000 2000 ∷ hour 2000 3000 ∷ hour 3000 3000 ∷ []) (turned_down ResourceExhausted)
    ∷ 9 is_row windows_are (hour 1000 1000 ∷ hour 2000 3000 ∷ hour 3000 4000 ∷ []) (turned_down ConstraintError)
    ∷ 10 is_row zones_are (zone (pos 0) 5 ∷ []) (turned_down ConstraintError)
    ∷ 10 is_row zones_are (zone (pos 0) 0 ∷ zone (pos 0) 0 ∷ []) (turned_down ConstraintError)
    ∷ 11 is_row sleeps_at (windows (window (pos 3600) 1000 None ∷ [])) 500 (at_most 100500)
    ∷ 12 is_row waits_are 300000000 (wait_for 60000000 ∷ wait_for 120000000 ∷ wait_for 240000000 ∷ wait_for 300000000 ∷ wait_for 300000000 ∷ [])
    ∷ []

abbrev pub RowHolds : Entry → Type 0
RowHolds (p is_row r) = Holds r

-- the claim, proved as `every_row` in proofs/Table.antt
abbrev pub EveryRowHolds : Type 0
EveryRowHolds = All RowHolds table
