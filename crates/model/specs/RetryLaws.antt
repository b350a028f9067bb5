-- Runs of a client, step after step, at any clocks and any ticks, and what holds of them. The proofs stand in proofs/RetryLaws.antt.
use Rattle.std.specs.Prelude.{Bool, false, List, [], ◌∷◌, ◌++◌, map, ◌≡◌, ℕ, ◌+◌, ◌*◌, ◌^◌, ◌≤◌, min, eqb, length, is_some}
use Rattle.model.specs.Basics.{keep, All, run}
use Rattle.model.specs.Answers.{Event, event_number, MissingTrustedTimeSource, TimeFailure, Effect, report, emit, wake_timer, wake_client, store_record, remove_record, store_moment, remove_moment, store_source, remove_source}
use Rattle.model.specs.Clock.{Clock}
use Rattle.model.specs.Retries.{Client, first_retry, Outcome, Refresh, Applied, NoTime, NoSource, Failure, refresh, Step, attempt, wait_for, source_changed, RETRY_MIN, TIME_EVENTS_INTERVAL}

-- ## Inputs

-- an attempt or a change of the source, with the clock and the tick then
pub data Input : Type 0 where
  attempted : Clock → Outcome → ℕ → Input
  changed : Clock → ℕ → Input

abbrev pub tick_of : Input → ℕ
tick_of (attempted k o tick) = tick
tick_of (changed k tick) = tick

abbrev pub step : Client → Input → Step
step c (attempted k o tick) = attempt c k o tick
step c (changed k tick) = source_changed c k

-- the client after a run
abbrev pub client_from : Client → List Input → Client
client_from c is = run (λ d i. (step d i).client) c is

-- ## What an attempt gets

-- an attempt got a time
abbrev pub Applies : Refresh → Type 0
Applies (Applied utc g) = Unit {0}
Applies NoTime = ⊥
Applies NoSource = ⊥
Applies Failure = ⊥

-- an attempt had a source, and got no time from it
abbrev pub BacksOff : Refresh → Type 0
BacksOff (Applied utc g) = ⊥
BacksOff NoTime = Unit {0}
BacksOff NoSource = ⊥
BacksOff Failure = Unit {0}

-- a failing attempt: with a source, and without a time from it
abbrev pub Fails : Input → Type 0
Fails (attempted k o tick) = BacksOff (refresh (is_some k.trusted) o)
Fails (changed k tick) = ⊥

-- an attempt that applies a time, or a change of the source
abbrev pub Restarts : Input → Type 0
Restarts (attempted k o tick) = Applies (refresh (is_some k.trusted) o)
Restarts (changed k tick) = Unit {0}

-- ## Emissions

-- the kinds of events that a client emits
pub data Kind : Type 0 where
  missing_source : Kind
  time_failure : Kind

abbrev pub event_of : Kind → Event
event_of missing_source = MissingTrustedTimeSource
event_of time_failure = TimeFailure

-- whether an effect emits an event of a kind
abbrev pub emits : Kind → Effect → Bool
emits kind (report a) = false
emits kind (emit e) = eqb (event_number e) (event_number (event_of kind))
emits kind wake_timer = false
emits kind wake_client = false
emits kind store_record = false
emits kind remove_record = false
emits kind (store_moment moment) = false
emits kind remove_moment = false
emits kind (store_source s) = false
emits kind remove_source = false

-- the tick, as often as the effects of a step emit an event of a kind
abbrev pub emitted_at : Kind → ℕ → List Effect → List ℕ
emitted_at kind tick effects = map (λ e. tick) (keep (emits kind) effects)

-- the ticks at which a run emits events of a kind, in its order
unfoldable pub emissions : Kind → Client → List Input → List ℕ
emissions kind c [] = []
emissions kind c (i ∷ is) = emitted_at kind (tick_of i) (step c i).effects ++ emissions kind (step c i).client is

-- each number is at least a distance above every number before it
abbrev pub Apart : ℕ → List ℕ → Type 0
Apart distance [] = Unit {0}
Apart distance (x ∷ xs) = All (λ y. x + distance ≤ y) xs × Apart distance xs

-- ## Waits

-- no step changes the period
abbrev pub PeriodStays : Type 0
PeriodStays = (c : Client) (i : Input) → (step c i).client.period ≡ c.period

-- an applied time and a change of the source start the retries over
abbrev pub StartsOver : Type 0
StartsOver = (c : Client) (i : Input) → Restarts i → (step c i).client.retry ≡ first_retry c.period

-- after k failures in a row from the first retry: the smaller of RETRY_MIN × 2^k and the period
abbrev pub wait_after : ℕ → Client → ℕ
wait_after k c = min (RETRY_MIN * 2 ^ k) c.period

-- so much is the retry after k failures in a row
abbrev pub RetryDoubles : Type 0
RetryDoubles =
    (c : Client) (failures : List Input)
    → c.retry ≡ first_retry c.period → All Fails failures → (client_from c failures).retry ≡ wait_after (length failures) c

-- and so long the failure after k failures in a row waits
abbrev pub WaitDoubles : Type 0
WaitDoubles =
    (c : Client) (failures : List Input) (i : Input)
    → c.retry ≡ first_retry c.period → All Fails failures → Fails i
    → (step (client_from c failures) i).next ≡ wait_for (wait_after (length failures) c)

-- ## Events

-- events of one kind are at least TIME_EVENTS_INTERVAL apart, from any client on and at any ticks, even where they run backwards
abbrev pub EventsApart : Type 0
EventsApart = (kind : Kind) (c : Client) (is : List Input) → Apart TIME_EVENTS_INTERVAL (emissions kind c is)
