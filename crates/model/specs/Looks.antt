-- What holds of the timer's looks: a second look is silent, each fall from usable to unusable emits DSTTableEmpty once, and a sleep skips no transition.
-- The proofs stand in proofs/Looks.antt.
use Rattle.std.specs.Prelude.{Bool, not, ◌&&◌, cond, List, [], ◌∷◌, ◌++◌, ◌≡◌, ℕ, suc, ◌+◌, ◌-◌, ◌≤◌, ◌<◌, Option, None, Some}
use Rattle.model.specs.Basics.{top, held_at_top}
use Rattle.model.specs.Lists.{Lists}
use Rattle.model.specs.Answers.{Event, DSTTableEmpty, DSTStatus, TimeZoneStatus, TimeFailure, MissingTrustedTimeSource}
use Rattle.model.specs.Lookups.{usable, next_transition}
use Rattle.model.specs.Clock.{Reading, reliable, last_known}
use Rattle.model.specs.Demand3.{SameAnswers}
use Rattle.model.specs.Timer.{Timer, at_most, Look, look}

-- ## A second look with nothing changed emits nothing, and changes neither the timer nor the sleep

abbrev pub silent : Look → Look
silent k = record { timer = k.timer; events = []; sleep = k.sleep }

abbrev pub SilentAgain : Type 0
SilentAgain =
    (timer : Timer) (lists : Option Lists) (reading : Reading)
    → look (look timer lists reading).timer lists reading ≡ silent (look timer lists reading)

-- ## DSTTableEmpty is emitted once for each time that usable becomes unusable

-- what one look of a run is at: the lists and the clock's reading
pub record Instant : Type 0 where
  pub lists : Lists
  pub reading : Reading

-- the look of a timer at an instant
abbrev pub look_in : Timer → Instant → Look
look_in timer i = look timer (Some i.lists) i.reading

-- the events of a run of looks, each with the timer that the one before left
unfoldable pub events_over : Timer → List Instant → List Event
events_over timer [] = []
events_over timer (i ∷ is) = (look_in timer i).events ++ events_over (look_in timer i).timer is

-- 1 for DSTTableEmpty, 0 for any other event
abbrev pub empty_count : Event → ℕ
empty_count DSTTableEmpty = 1
empty_count (DSTStatus active) = 0
empty_count (TimeZoneStatus offset name) = 0
empty_count TimeFailure = 0
empty_count MissingTrustedTimeSource = 0

-- how many of some events are DSTTableEmpty
unfoldable pub empties : List Event → ℕ
empties [] = 0
empties (e ∷ es) = empty_count e + empties es

-- whether a window is usable at a reliable reading, in front of others; any other reading says nothing
abbrev pub usable_then : Lists → Reading → List Bool → List Bool
usable_then l (reliable now) bs = usable l now ∷ bs
usable_then l (last_known moment) bs = bs

-- whether a window is usable, at each instant with a reliable clock
unfoldable pub usables : List Instant → List Bool
usables [] = []
usables (i ∷ is) = usable_then i.lists i.reading (usables is)

-- what the timer last saw of it, in front
abbrev pub last_usable : Timer → List Bool → List Bool
last_usable None bs = bs
last_usable (Some seen) bs = seen.usable ∷ bs

-- how often true is followed by false
unfoldable pub falls : List Bool → ℕ
falls [] = 0
falls (b ∷ []) = 0
falls (b ∷ (c ∷ cs)) = cond (b && not c) (suc (falls (c ∷ cs))) (falls (c ∷ cs))

abbrev pub OnceForEachFall : Type 0
OnceForEachFall = (timer : Timer) (is : List Instant) → empties (events_over timer is) ≡ falls (last_usable timer (usables is))

-- ## A sleep ends past its transition and before the one after

-- the sleep `s` of a look at `now` is for the transition `next`, a 64-bit moment
pub record SleepsFor (timer : Timer) (l : Lists) (now next s : ℕ) : Type 0 where
  pub transition : next_transition l now ≡ Some next
  pub moment : next ≤ top
  pub sleep : (look timer (Some l) (reliable now)).sleep ≡ at_most s

-- a look at a reliable clock has such a sleep wherever there is a next transition
abbrev pub SleepsWhereNext : Type 0
SleepsWhereNext =
    (timer : Timer) (l : Lists) (now next : ℕ) → next_transition l now ≡ Some next → next ≤ top
    → SleepsFor timer l now next (held_at_top (next - now + 100000))

-- it ends at the transition or past it, held or not
abbrev pub EndsPast : Type 0
EndsPast = (timer : Timer) (l : Lists) (now next s : ℕ) → SleepsFor timer l now next s → next ≤ now + s

-- where it is not held, it ends 100,000 µs past the transition
abbrev pub EndsMarginPast : Type 0
EndsMarginPast =
    (timer : Timer) (l : Lists) (now next s : ℕ) → SleepsFor timer l now next s → next - now + 100000 ≤ top
    → now + s ≡ next + 100000

-- the transition after `next`, if there is one, lies more than 100,000 µs after it
abbrev pub FarFrom : ℕ → Option ℕ → Type 0
FarFrom next None = Unit {0}
FarFrom next (Some m) = next + 100000 < m

-- where it ends, all that is looked up is as at the transition: the next one is that after it, and none is skipped
abbrev pub SkipsNone : Type 0
SkipsNone =
    (timer : Timer) (l : Lists) (now next s : ℕ) → SleepsFor timer l now next s → FarFrom next (next_transition l next)
    → SameAnswers l (now + s) next
