-- What a look of the timer and a step of the client answer, ask for and leave in an image.
use Rattle.std.specs.Prelude.{Bool, false, cond, List, [], ◌∷◌, map, ℕ, eqb, ℤ, length, Option, None}
use Rattle.model.specs.Lists.{Name}
use Rattle.model.specs.Answers.{Answer, answers, number_of, Event, DSTTableEmpty, DSTStatus, TimeZoneStatus, TimeFailure, MissingTrustedTimeSource, Effect, emit}
use Rattle.model.specs.Codes.{returned}
use Rattle.model.specs.Output.{roomy, leaves, leaves_copy, mark_of, truth, name_or}
use Rattle.model.specs.Lookups.{ZoneNow, zone_now}
use Rattle.model.specs.Clock as C
use Rattle.model.specs.Handler.{lists_of}
use Rattle.model.specs.Timer as T
use Rattle.model.specs.Timer.{Look, Sleep, never, until_woken, at_most}
use Rattle.model.specs.Retries as R
use Rattle.model.specs.Retries.{Outcome, told, failed, Step, Next, attempt_now, wait_for, wait_for_source}
use Rattle.image.specs.Parts.{device_in, timer_in, client_in, clock_in, with_timer, with_clock, with_client}
use Rattle.image.specs.Asked.{asked}

-- ## A look of the timer

-- the zone that TimeZoneStatus tells; offset 0 and no name where it is not emitted
abbrev pub zone_told : List Event → ZoneNow
zone_told [] = zone_now None
zone_told (TimeZoneStatus offset name ∷ es) = record { offset = offset; name = name }
zone_told (DSTTableEmpty ∷ es) = zone_told es
zone_told (DSTStatus active ∷ es) = zone_told es
zone_told (TimeFailure ∷ es) = zone_told es
zone_told (MissingTrustedTimeSource ∷ es) = zone_told es

-- what DSTStatus tells; false where it is not emitted
abbrev pub active_told : List Event → Bool
active_told [] = false
active_told (DSTStatus active ∷ es) = active
active_told (DSTTableEmpty ∷ es) = active_told es
active_told (TimeZoneStatus offset name ∷ es) = active_told es
active_told (TimeFailure ∷ es) = active_told es
active_told (MissingTrustedTimeSource ∷ es) = active_told es

-- the name that is emitted
abbrev pub name_told : Look → Name
name_told l = name_or (zone_told l.events).name

-- NoSpace only where a name is emitted that has no room
unfoldable pub look : List ℕ → ℕ → ℕ → Answer Look
look s tick room = roomy room name_told (asked s (answers (T.look (timer_in s) (lists_of (device_in s).store) (C.reading (clock_in s) tick))))

abbrev pub emitted : Look → List Effect
emitted l = map (λ e. emit e) l.events

abbrev pub look_returned : Answer Look → ℕ
look_returned a = returned (number_of a) (leaves a emitted [])

abbrev pub look_left : List ℕ → Answer Look → List ℕ
look_left s a = leaves a (λ l. with_timer s l.timer) s

-- 0: it never looks; 1: until it is woken; 2: so many µs, or until it is woken
abbrev pub sleep_kind : Sleep → ℕ
sleep_kind never = 0
sleep_kind until_woken = 1
sleep_kind (at_most us) = 2

abbrev pub sleep_time : Sleep → ℕ
sleep_time never = 0
sleep_time until_woken = 0
sleep_time (at_most us) = us

-- what a look returns, and what it leaves in the image, in the slice for a name and in the numbers that its caller lends
pub record Looked : Type 0 where
  pub returned : ℕ
  pub image : List ℕ
  pub name : List ℕ
  pub offset : ℤ
  pub named : ℕ
  pub name_length : ℕ
  pub active : ℕ
  pub sleep : ℕ
  pub sleep_time : ℕ

abbrev pub looked_by : List ℕ → Answer Look → List ℕ → ℤ → ℕ → ℕ → ℕ → ℕ → ℕ → Looked
looked_by s a name offset named name_length active sleep time =
    record {
      returned = look_returned a;
      image = look_left s a;
      name = leaves_copy a name_told name;
      offset = leaves a (λ l. (zone_told l.events).offset) offset;
      named = leaves a (λ l. mark_of (zone_told l.events).name) named;
      name_length = leaves a (λ l. length (name_told l)) name_length;
      active = leaves a (λ l. truth (active_told l.events)) active;
      sleep = leaves a (λ l. sleep_kind l.sleep) sleep;
      sleep_time = leaves a (λ l. sleep_time l.sleep) time;
    }

-- of the image, the tick, the slice for a name, and the numbers in the order of the fields
abbrev pub look_outcome : List ℕ → ℕ → List ℕ → ℤ → ℕ → ℕ → ℕ → ℕ → ℕ → Looked
look_outcome s tick name offset named name_length active sleep time =
    looked_by s (look s tick (length name)) name offset named name_length active sleep time

-- ## The client

-- an exchange was answered where the first mark is not 0; then a moment and a granularity, each where its mark is not 0
abbrev pub outcome_by : ℕ → Option ℕ → Option ℕ → Outcome
outcome_by answered utc granularity = cond (eqb answered 0) failed (told (record { utc = utc; granularity = granularity }))

unfoldable pub attempt : List ℕ → Outcome → ℕ → Answer Step
attempt s outcome tick = asked s (answers (R.attempt (client_in s) (clock_in s) outcome tick))

unfoldable pub source_changed : List ℕ → Answer Step
source_changed s = asked s (answers (R.source_changed (client_in s) (clock_in s)))

abbrev pub step_returned : Answer Step → ℕ
step_returned a = returned (number_of a) (leaves a (λ p. p.effects) [])

-- an attempt writes the clock and the client, a change of the source the client
abbrev pub attempt_left : List ℕ → Answer Step → List ℕ
attempt_left s a = leaves a (λ p. with_client (with_clock s p.clock) p.client) s

abbrev pub change_left : List ℕ → Answer Step → List ℕ
change_left s a = leaves a (λ p. with_client s p.client) s

-- 0: an attempt now; 1: a wait of so many µs, or until the source changes; 2: until it changes
abbrev pub wait_kind : Next → ℕ
wait_kind attempt_now = 0
wait_kind (wait_for us) = 1
wait_kind wait_for_source = 2

abbrev pub wait_time : Next → ℕ
wait_time attempt_now = 0
wait_time (wait_for us) = us
wait_time wait_for_source = 0

-- what a step returns, and what it leaves in the image and in the numbers that its caller lends
pub record Stepped : Type 0 where
  pub returned : ℕ
  pub image : List ℕ
  pub wait : ℕ
  pub wait_time : ℕ

abbrev pub stepped_by : List ℕ → Answer Step → ℕ → ℕ → Stepped
stepped_by left a wait time =
    record {
      returned = step_returned a;
      image = left;
      wait = leaves a (λ p. wait_kind p.next) wait;
      wait_time = leaves a (λ p. wait_time p.next) time;
    }

abbrev pub attempt_outcome : List ℕ → Outcome → ℕ → ℕ → ℕ → Stepped
attempt_outcome s outcome tick wait time = stepped_by (attempt_left s (attempt s outcome tick)) (attempt s outcome tick) wait time

abbrev pub change_outcome : List ℕ → ℕ → ℕ → Stepped
change_outcome s wait time = stepped_by (change_left s (source_changed s)) (source_changed s) wait time
