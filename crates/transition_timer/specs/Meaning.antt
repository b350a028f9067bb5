-- What the structs of this crate stand for in the definitions, and a look over a table.
use Rattle.std.specs.Prelude.{Bool, false, List, ◌++◌, ℕ, ◌+◌, ◌-◌, Option, None, Some, is_some, option_map, option_to_list}
use Rattle.std.specs.Bool.{then_some}
use Rattle.model.specs.Basics.{held_at_top, when}
use Rattle.model.specs.Answers.{TimeZoneStatus, DSTStatus, DSTTableEmpty}
use Rattle.model.specs.Lookups.{active_offset, usable, next_transition}
use Rattle.model.specs.Timer as T
use Rattle.table.specs.Layout.{lists_in}
use Rattle.lookups.specs.declared.ZoneShown.{ZoneShown}
use Rattle.lookups.specs.Shown.{shown_by, active_index}
use Rattle.lookups.specs.Laws.{shown_name}
use Rattle.rtc.specs.declared.UtcTime.{UtcTime}
use Rattle.rtc.specs.declared.UtcTime.TheVariants.{Reliable, LastKnown}
use Rattle.transition_timer.specs.declared.Seen.{Seen}
use Rattle.transition_timer.specs.declared.Sleep.{Sleep}
use Rattle.transition_timer.specs.declared.Sleep.TheVariants.{Never, UntilWoken, AtMost}
use Rattle.transition_timer.specs.declared.Look.{Look}

-- ## Meanings

-- what a look sees, field by field
abbrev pub seen_of : Seen → T.Seen
seen_of s = record { offset = s.offset; active = s.active; usable = s.usable }

-- the timer that last saw this
abbrev pub timer_of : Option Seen → T.Timer
timer_of last = option_map seen_of last

abbrev pub sleep_of : Sleep → T.Sleep
sleep_of Never = T.never
sleep_of UntilWoken = T.until_woken
sleep_of (AtMost us) = T.at_most us

-- a look: each event that is there, in the order of the definitions; the name out of the table
abbrev pub look_of : List ℕ → Look → T.Look
look_of t r =
    record {
      timer = timer_of r.seen;
      events =
          option_to_list (option_map (λ z. TimeZoneStatus z.offset (shown_name t z)) r.zone_status)
          ++ (option_to_list (option_map (λ active. DSTStatus active) r.dst_status) ++ when r.dst_table_empty DSTTableEmpty);
      sleep = sleep_of r.sleep;
    }

-- ## A look over a table

-- what is seen where this zone is the active one
abbrev pub seen_from : ZoneShown → Bool → Bool → Seen
seen_from zone active usable = record { offset = zone.offset; active = active; usable = usable }

-- what is seen of the lists at a moment
abbrev pub seen_by : List ℕ → ℕ → Seen
seen_by t now = seen_from (shown_by t (active_index t now)) (is_some (active_offset (lists_in t) now)) (usable (lists_in t) now)

-- the sleep until 100,000 µs past the next transition, held at the top
abbrev pub sleep_by : Option ℕ → ℕ → Sleep
sleep_by None now = UntilWoken
sleep_by (Some next) now = AtMost (held_at_top (next - now + 100000))

-- a look that keeps what was seen and emits nothing
abbrev pub quiet_by : Option Seen → Sleep → Look
quiet_by last sleep = record { seen = last; zone_status = None; dst_status = None; dst_table_empty = false; sleep = sleep }

-- a look that sees `new` at a reliable clock, where this zone is the active one
abbrev pub look_seeing : Option Seen → Seen → ZoneShown → Sleep → Look
look_seeing last new zone sleep =
    record {
      seen = Some new;
      zone_status = then_some (T.zone_due (timer_of last) (seen_of new)) zone;
      dst_status = then_some (T.active_due (timer_of last) (seen_of new)) new.active;
      dst_table_empty = T.empty_due (timer_of last) (seen_of new);
      sleep = sleep;
    }

-- a look at a reliable clock
abbrev pub look_at : Option Seen → List ℕ → ℕ → Look
look_at last t now = look_seeing last (seen_by t now) (shown_by t (active_index t now)) (sleep_by (next_transition (lists_in t) now) now)

-- a look at a reading, over the table where there is a list store
unfoldable pub look_by : Option Seen → Option (List ℕ) → UtcTime → Look
look_by last None reading = quiet_by last Never
look_by last (Some t) (Reliable now) = look_at last t now
look_by last (Some t) (LastKnown moment) = quiet_by last UntilWoken
