-- A look at an image is the timer's look, and what its events carry.
use Rattle.std.proofs.Common.{Bool, true, false, cond, List, ◌≡◌, ℕ, Option, None, Some, unwrap_or, arith}
use Rattle.std.proofs.lemmas.Grind.{common_steps}
use Rattle.std.specs.Bool.{then_some}
use Rattle.model.specs.declared.Refusal.TheVariants.{NoSpace}
use Rattle.model.specs.Answers.{refused, answers}
use Rattle.model.specs.Clock as C
use Rattle.model.specs.Handler.{lists_of}
use Rattle.model.specs.Output.{too_short, name_or}
use Rattle.model.specs.Timer as T
use Rattle.rtc.specs.declared.UtcTime.{UtcTime}
use Rattle.rtc.specs.Meaning.{reading_of}
use Rattle.table.specs.Layout.{store_in}
use Rattle.lookups.specs.declared.ZoneShown.{ZoneShown}
use Rattle.lookups.specs.Shown.{blank_shown}
use Rattle.lookups.specs.Laws.{shown_name, zone_now_in}
use Rattle.transition_timer.specs.declared.Seen.{Seen}
use Rattle.transition_timer.specs.declared.Look.{Look}
use Rattle.transition_timer.specs.Meaning.{timer_of, look_of, look_by}
use Rattle.transition_timer.proofs.Same.{same_look}
use Rattle.image.specs.Layout.{is_image, table_in}
use Rattle.image.specs.Parts.{timer_in, clock_in, has_lists}
use Rattle.steps.specs.Steps.{look, zone_told, active_told}

-- ## What the events carry

-- the zone that a look tells, blank where TimeZoneStatus is not due
pub zone_is : (t : List ℕ) (l : Look) (z : ZoneShown) → z ≡ unwrap_or l.zone_status blank_shown
    → zone_told (look_of t l).events ≡ zone_now_in t z
zone_is t l z e = grind (arith, common_steps)

-- what DSTStatus tells, false where it is not due
pub active_is : (t : List ℕ) (l : Look) → active_told (look_of t l).events ≡ unwrap_or l.dst_status false
active_is t l = grind (arith, common_steps)

-- ## A look at an image

module _ (s : List ℕ) (last : Option Seen) (reading : UtcTime) where
  -- a look over the table, where there is a list store, is the timer's look
  same_there : (there : Bool)
      → look_of (table_in s) (look_by last (then_some there (table_in s)) reading)
      ≡ T.look (timer_of last) (lists_of (cond there (Some (store_in (table_in s))) None)) (reading_of reading)
  same_there true = same_look last (Some (table_in s)) (table_in s) reading
  same_there false = same_look last None (table_in s) reading

  -- it answers where the name that it tells has room
  pub look_is : (tick room : ℕ) (l : Look) (z : ZoneShown)
      → is_image s ≡ true → timer_of last ≡ timer_in s → reading_of reading ≡ C.reading (clock_in s) tick
      → l ≡ look_by last (then_some (has_lists s) (table_in s)) reading → z ≡ unwrap_or l.zone_status blank_shown
      → look s tick room ≡ cond (too_short room (name_or (shown_name (table_in s) z))) (refused NoSpace) (answers (look_of (table_in s) l))
  unfolding look
  look_is tick room l z i et er el ez = rw (i, ← et, ← er, ← same_there (has_lists s), ← el, zone_is (table_in s) l z ez)
