-- The retry after failures in a row, what starts the retries over, and the distance of events of one kind.
use Rattle.std.proofs.Common.{Option, None, Some, is_some, Bool, true, false, ◌&&◌, cond, List, [], ◌∷◌, ◌++◌, map, append-nil, ◌≡◌, refl, ap, ◌∙◌, ℕ, ◌+◌, ◌*◌, ◌^◌, ◌≤◌, min, pow-suc, mul_assoc, mul_comm, mul-le-mul_left, arith, leb-true, leb-false, leb, length, pow_pos}
use Rattle.model.specs.Basics.{keep, when, All, run}
use Rattle.model.specs.Answers.{Effect}
use Rattle.model.specs.Clock.{Clock, set_utc_time, set_utc_time_persist}
use Rattle.model.specs.Retries.{Client, Refresh, Applied, NoTime, NoSource, Failure, refresh, first_retry, due, marked, source_missing, time_missing, events_of, doubled, Step, clock_effects, attempt_of, wait_for, source_changed, RETRY_MIN, TIME_EVENTS_INTERVAL}
use Rattle.model.specs.RetryLaws.{Input, attempted, changed, step, client_from, Applies, BacksOff, Fails, PeriodStays, StartsOver, RetryDoubles, WaitDoubles, Kind, missing_source, time_failure, emits, emitted_at, emissions, Apart, EventsApart}
use Rattle.model.proofs.Facts.{by_test, All-map, keep_append, keep_when}

-- ## One step

pub period_stays : PeriodStays
unfolding attempt_of source_changed
period_stays c (attempted k o tick) = refl
period_stays c (changed k tick) = refl

applied_restarts : (c : Client) (k : Clock) (r : Refresh) (tick : ℕ) → Applies r → (attempt_of c k r tick).client.retry ≡ first_retry c.period
unfolding attempt_of
applied_restarts c k (Applied utc g) tick h = refl
applied_restarts c k NoTime tick h = absurd h
applied_restarts c k NoSource tick h = absurd h
applied_restarts c k Failure tick h = absurd h

pub starts_over : StartsOver
unfolding source_changed
starts_over c (attempted k o tick) h = applied_restarts c k (refresh (is_some k.trusted) o) tick h
starts_over c (changed k tick) h = refl

-- what a failure leaves: the retry doubled, and a wait of the retry before that
record Failed (c : Client) (s : Step) : Type 0 where
  retry : s.client.retry ≡ doubled c
  next : s.next ≡ wait_for c.retry

backs_off : (c : Client) (k : Clock) (r : Refresh) (tick : ℕ) → BacksOff r → Failed c (attempt_of c k r tick)
unfolding attempt_of
backs_off c k (Applied utc g) tick h = absurd h
backs_off c k NoTime tick h = record { retry = refl; next = refl }
backs_off c k NoSource tick h = absurd h
backs_off c k Failure tick h = record { retry = refl; next = refl }

failed : (c : Client) (i : Input) → Fails i → Failed c (step c i)
failed c (attempted k o tick) h = backs_off c k (refresh (is_some k.trusted) o) tick h
failed c (changed k tick) h = absurd h

-- ## Failures in a row

-- holding a number before it is multiplied changes nothing where the product is held
held : (m a p : ℕ) → 1 ≤ m → min (m * min a p) p ≡ min (m * a) p
held m a p h =
    by_test (leb a p)
    (λ e. let below = leb-true a p e in let q : min a p ≡ a = omega arith in rw q)
    (λ e. let above = leb-false a p e in
    let q : min a p ≡ p = omega arith in
    let once : p * 1 ≤ p * m = mul-le-mul_left p h in
    let more : m * p ≤ m * a = mul-le-mul_left m (omega arith) in
    rw q (omega (arith, mul_comm p m)))

-- a retry within the period is multiplied by 2 for each failure, and held
multiplied : (c : Client) (failures : List Input) → c.retry ≤ c.period → All Fails failures
    → (client_from c failures).retry ≡ min (2 ^ length failures * c.retry) c.period
unfolding run
multiplied c [] within h = omega arith
multiplied c (i ∷ is) within h =
    let d = (step c i).client in
    let n = length is in
    let now : d.retry ≡ min (2 * c.retry) c.period = (failed c i h.0).retry in
    let same = period_stays c i in
    multiplied d is (rw (now, same) (omega arith)) h.1
    ∙ rw (now, same, held (2 ^ n) (2 * c.retry) c.period (pow_pos n), pow-suc 2 n, mul_assoc)

pub retry_doubles : RetryDoubles
retry_doubles c failures first h =
    let n = length failures in
    multiplied c failures (omega arith) h
    ∙ rw (first, held (2 ^ n) RETRY_MIN c.period (pow_pos n), mul_comm (2 ^ n) RETRY_MIN)

pub wait_doubles : WaitDoubles
wait_doubles c failures i first h fails = (failed (client_from c failures) i fails).next ∙ ap wait_for (retry_doubles c failures first h)

-- ## Marks: an event is emitted only where its mark is at least the interval old, and its tick is the next mark

-- of what is said of both kinds, what is said of one
abbrev pub pick : Kind → Bool → Bool → Bool
pick missing_source missing failure = missing
pick time_failure missing failure = failure

abbrev mark_of : Kind → Client → Option ℕ
mark_of missing_source c = c.missing_at
mark_of time_failure c = c.failure_at

abbrev wanted : Kind → Refresh → Bool
wanted kind r = pick kind (source_missing r) (time_missing r)

-- the mark after an attempt
abbrev mark_after : Bool → Option ℕ → ℕ → Option ℕ
mark_after want mark tick = cond want (marked mark tick) mark

mark_after_lem : (kind : Kind) (c : Client) (k : Clock) (r : Refresh) (tick : ℕ)
    → mark_of kind (attempt_of c k r tick).client ≡ mark_after (wanted kind r) (mark_of kind c) tick
unfolding attempt_of
mark_after_lem missing_source c k r tick = refl
mark_after_lem time_failure c k r tick = refl

mark_stays : (kind : Kind) (c : Client) (k : Clock) → mark_of kind (source_changed c k).client ≡ mark_of kind c
unfolding source_changed
mark_stays missing_source c k = refl
mark_stays time_failure c k = refl

-- ## Emissions

-- setting the clock emits nothing
clock_silent : (kind : Kind) (k : Clock) (r : Refresh) (tick : ℕ) → keep (emits kind) (clock_effects k r tick) ≡ []
unfolding set_utc_time_persist set_utc_time keep
clock_silent kind k (Applied utc g) tick = simp keep_when
clock_silent kind k NoTime tick = refl
clock_silent kind k NoSource tick = refl
clock_silent kind k Failure tick = refl

tick_of_lem : (emits : Bool) (e : Effect) (tick : ℕ) → map (λ x. tick) (when emits e) ≡ when emits tick
tick_of_lem true e tick = refl
tick_of_lem false e tick = refl

attempt_emits : (kind : Kind) (c : Client) (k : Clock) (r : Refresh) (tick : ℕ)
    → emitted_at kind tick (attempt_of c k r tick).effects ≡ when (wanted kind r && due (mark_of kind c) tick) tick
unfolding attempt_of events_of
attempt_emits missing_source c k r tick = simp (keep_append, clock_silent, keep_when, append-nil, tick_of_lem)
attempt_emits time_failure c k r tick = simp (keep_append, clock_silent, keep_when, tick_of_lem)

-- ## Events of one kind are apart

-- a mark, as a list
abbrev marks : Option ℕ → List ℕ
marks None = []
marks (Some mark) = mark ∷ []

-- what an attempt emits stands apart from the mark before it, where the mark after it stands apart from all that comes later
step_apart : (want : Bool) (mark : Option ℕ) (tick : ℕ) (later : List ℕ)
    → Apart TIME_EVENTS_INTERVAL (marks (mark_after want mark tick) ++ later)
    → Apart TIME_EVENTS_INTERVAL (marks mark ++ (when (want && due mark tick) tick ++ later))
step_apart false mark tick later h = h
step_apart true None tick later h = h
step_apart true (Some mark) tick later h =
    by_test (leb (mark + TIME_EVENTS_INTERVAL) tick)
    (λ e. let after = leb-true (mark + TIME_EVENTS_INTERVAL) tick e in
    let rest = rw e at h in
    rw e ((after, All-map (λ y q. omega arith) later rest.0), rest))
    (λ e. let rest = rw e at h in rw e rest)

alone : (mark : Option ℕ) → Apart TIME_EVENTS_INTERVAL (marks mark ++ [])
alone None = tt
alone (Some mark) = (tt, tt)

after_mark : (mark : Option ℕ) (later : List ℕ) → Apart TIME_EVENTS_INTERVAL (marks mark ++ later) → Apart TIME_EVENTS_INTERVAL later
after_mark None later h = h
after_mark (Some mark) later h = h.1

-- a mark and the events after it are apart
from_mark : (kind : Kind) (c : Client) (is : List Input) → Apart TIME_EVENTS_INTERVAL (marks (mark_of kind c) ++ emissions kind c is)
unfolding emissions source_changed keep
from_mark kind c [] = alone (mark_of kind c)
from_mark kind c (attempted k o tick ∷ is) =
    let r = refresh (is_some k.trusted) o in
    let ih = rw (mark_after_lem kind c k r tick) at (from_mark kind (attempt_of c k r tick).client is) in
    rw (attempt_emits kind c k r tick) (step_apart (wanted kind r) (mark_of kind c) tick _ ih)
from_mark kind c (changed k tick ∷ is) = rw (mark_stays kind c k) at (from_mark kind (source_changed c k).client is)

pub events_apart : EventsApart
events_apart kind c is = after_mark (mark_of kind c) _ (from_mark kind c is)
