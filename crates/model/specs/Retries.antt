-- The client, `TimeSyncClient`: attempts, waits and hourly marks, one step per event.
use Rattle.std.specs.Prelude.{Bool, true, false, ◌&&◌, cond, List, [], ◌++◌, ℕ, ◌+◌, ◌*◌, min, leb, Option, None, Some, is_some}
use Rattle.model.specs.declared.TimeGranularity.{TimeGranularity}
use Rattle.model.specs.declared.TimeGranularity.TheVariants as G
use Rattle.model.specs.declared.TimeSource.TheVariants.{NodeTimeCluster}
use Rattle.model.specs.Numbers.{granularity_of}
use Rattle.model.specs.Basics.{Moment, Tick, when}
use Rattle.model.specs.Answers.{Effect, emit, MissingTrustedTimeSource, TimeFailure}
use Rattle.model.specs.Clock.{Clock, set_utc_time_persist}

-- 60 s in µs: the first retry of a client whose period is not shorter
abbrev pub RETRY_MIN : ℕ
RETRY_MIN = 60000000

-- 3,600 s in µs: how long a mark holds back an event of its kind
abbrev pub TIME_EVENTS_INTERVAL : ℕ
TIME_EVENTS_INTERVAL = 3600000000

-- the period and the next retry in µs, and the ticks at which the two events were last marked
pub record Client : Type 0 where
  pub period : ℕ
  pub retry : ℕ
  pub missing_at : Option Tick
  pub failure_at : Option Tick

-- first retry: the smaller of RETRY_MIN and the period
abbrev pub first_retry : ℕ → ℕ
first_retry period = min RETRY_MIN period

-- a new client has marked nothing; what comes next is an attempt at once
abbrev pub new_client : ℕ → Client
new_client period = record { period = period; retry = first_retry period; missing_at = None; failure_at = None }

-- ## An attempt's outcome

-- a source's reading: a moment or null, and the number of a granularity, which may be missing
pub record Told : Type 0 where
  pub utc : Option Moment
  pub granularity : Option ℕ

-- outcome: a reading, or the fact that the exchange failed
pub data Outcome : Type 0 where
  told : Told → Outcome
  failed : Outcome

-- what an attempt got
pub data Refresh : Type 0 where
  Applied : Moment → TimeGranularity → Refresh
  NoTime : Refresh
  NoSource : Refresh
  Failure : Refresh

abbrev pub or_seconds : Option TimeGranularity → TimeGranularity
or_seconds None = G.Seconds
or_seconds (Some g) = g

-- a missing granularity and a number above 4 count as Seconds
abbrev pub granularity_told : Option ℕ → TimeGranularity
granularity_told None = G.Seconds
granularity_told (Some n) = or_seconds (granularity_of n)

-- a null moment or NoTime gives no time; Microseconds are taken as Milliseconds, for the reading itself takes a while
abbrev pub refresh_told : Option ℕ → TimeGranularity → Refresh
refresh_told None g = NoTime
refresh_told (Some utc) G.NoTime = NoTime
refresh_told (Some utc) G.Minutes = Applied utc G.Minutes
refresh_told (Some utc) G.Seconds = Applied utc G.Seconds
refresh_told (Some utc) G.Milliseconds = Applied utc G.Milliseconds
refresh_told (Some utc) G.Microseconds = Applied utc G.Milliseconds

-- having no source comes before the outcome
unfoldable pub refresh : Bool → Outcome → Refresh
refresh false outcome = NoSource
refresh true failed = Failure
refresh true (told t) = refresh_told t.utc (granularity_told t.granularity)

-- ## Hourly marks (`hourly`)

-- due: never marked, or marked at least the interval ago; a tick before the mark is not due
abbrev pub due : Option ℕ → ℕ → Bool
due None tick = true
due (Some mark) tick = leb (mark + TIME_EVENTS_INTERVAL) tick

-- an event that is due is marked at the tick; else the mark is kept
abbrev pub marked : Option ℕ → ℕ → Option ℕ
marked mark tick = cond (due mark tick) (Some tick) mark

-- what got no time for want of a source that answers
abbrev pub source_missing : Refresh → Bool
source_missing (Applied utc g) = false
source_missing NoTime = false
source_missing NoSource = true
source_missing Failure = true

-- what got no time
abbrev pub time_missing : Refresh → Bool
time_missing (Applied utc g) = false
time_missing NoTime = true
time_missing NoSource = true
time_missing Failure = true

-- MissingTrustedTimeSource comes before TimeFailure, each by its own mark
unfoldable pub events_of : Client → Refresh → ℕ → List Effect
events_of c r tick =
    when (source_missing r && due c.missing_at tick) (emit MissingTrustedTimeSource)
    ++ when (time_missing r && due c.failure_at tick) (emit TimeFailure)

-- ## Waits and back-off (`back_off`)

-- twice the retry, at most the period
abbrev pub doubled : Client → ℕ
doubled c = min (2 * c.retry) c.period

-- the next retry: from the first again once applied, doubled after an attempt that got no time, and left alone with no source
abbrev pub retry_after : Client → Refresh → ℕ
retry_after c (Applied utc g) = first_retry c.period
retry_after c NoTime = doubled c
retry_after c NoSource = c.retry
retry_after c Failure = doubled c

-- what comes next: an attempt at once, a wait in µs or until the source changes, or a wait until it changes
pub data Next : Type 0 where
  attempt_now : Next
  wait_for : ℕ → Next
  wait_for_source : Next

-- applied: the period; no time: the retry as it was before it doubled; no source: until there is one
abbrev pub next_after : Client → Refresh → Next
next_after c (Applied utc g) = wait_for c.period
next_after c NoTime = wait_for c.retry
next_after c NoSource = wait_for_source
next_after c Failure = wait_for c.retry

abbrev pub client_after : Client → Refresh → ℕ → Client
client_after c r tick =
    record {
      period = c.period;
      retry = retry_after c r;
      missing_at = cond (source_missing r) (marked c.missing_at tick) c.missing_at;
      failure_at = cond (time_missing r) (marked c.failure_at tick) c.failure_at;
    }

-- ## The run loop (`run`)

-- what a step leaves, asks for, and what comes next
pub record Step : Type 0 where
  pub client : Client
  pub clock : Clock
  pub effects : List Effect
  pub next : Next

-- a time is applied by `set_utc_time_persist` with source NodeTimeCluster; the timer is not woken
abbrev pub clock_after : Clock → Refresh → ℕ → Clock
clock_after k (Applied utc g) tick = (set_utc_time_persist k utc g NodeTimeCluster tick).state
clock_after k NoTime tick = k
clock_after k NoSource tick = k
clock_after k Failure tick = k

abbrev pub clock_effects : Clock → Refresh → ℕ → List Effect
clock_effects k (Applied utc g) tick = (set_utc_time_persist k utc g NodeTimeCluster tick).effects
clock_effects k NoTime tick = []
clock_effects k NoSource tick = []
clock_effects k Failure tick = []

unfoldable pub attempt_of : Client → Clock → Refresh → ℕ → Step
attempt_of c k r tick =
    record {
      client = client_after c r tick;
      clock = clock_after k r tick;
      effects = clock_effects k r tick ++ events_of c r tick;
      next = next_after c r;
    }

-- an attempt, at the start, after a wait, and where a source came: the source is the clock's, the outcome what the exchange brought
abbrev pub attempt : Client → Clock → Outcome → ℕ → Step
attempt c k outcome tick = attempt_of c k (refresh (is_some k.trusted) outcome) tick

-- after a source change: attempt at once where there is a source, else wait for one
abbrev pub next_if_source : Bool → Next
next_if_source true = attempt_now
next_if_source false = wait_for_source

-- a source change starts the retries over and keeps the marks
unfoldable pub source_changed : Client → Clock → Step
source_changed c k =
    record {
      client = record { period = c.period; retry = first_retry c.period; missing_at = c.missing_at; failure_at = c.failure_at };
      clock = k;
      effects = [];
      next = next_if_source (is_some k.trusted);
    }
