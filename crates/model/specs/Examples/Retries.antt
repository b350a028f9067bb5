-- The client's attempts at the edges.
use Rattle.std.specs.Prelude.{true, false, [], ◌∷◌, ◌++◌, ◌≡◌, refl, ℕ, ◌^◌, Option, None, Some}
use Rattle.model.specs.declared.TimeGranularity.TheVariants.{Minutes, Seconds, Milliseconds}
use Rattle.model.specs.declared.TimeSource.TheVariants.{NodeTimeCluster}
use Rattle.model.specs.Numbers.{granularity_of}
use Rattle.model.specs.Basics.{top}
use Rattle.model.specs.Answers.{emit, MissingTrustedTimeSource, TimeFailure, store_moment}
use Rattle.model.specs.Clock.{Clock, fresh, set_to, utc_reports, set_utc_time, changes, a_day_apart, set_utc_time_persist}
use Rattle.model.specs.Retries.{Client, new_client, first_retry, doubled, Outcome, told, failed, refresh, Applied, NoTime, NoSource, Failure, events_of, attempt_of, attempt, attempt_now, wait_for, wait_for_source, source_changed}
use Rattle.model.specs.Table.{sourced}
use Rattle.model.specs.Examples.Cases.{Gives, ◌gives◌}

abbrev reading : Option ℕ → Option ℕ → Outcome
reading utc granularity = told (record { utc = utc; granularity = granularity })

-- ## What an attempt got

-- granularities missing, 0 to 4, and above; a null moment; a failed exchange
refreshes : Gives (refresh true)
    (reading (Some 5) None gives Applied 5 Seconds
    ∷ reading (Some 5) (Some 0) gives NoTime
    ∷ reading (Some 5) (Some 1) gives Applied 5 Minutes
    ∷ reading (Some 5) (Some 2) gives Applied 5 Seconds
    ∷ reading (Some 5) (Some 3) gives Applied 5 Milliseconds
    ∷ reading (Some 5) (Some 4) gives Applied 5 Milliseconds
    ∷ reading (Some 5) (Some 5) gives Applied 5 Seconds
    ∷ reading (Some 0) (Some 255) gives Applied 0 Seconds
    ∷ reading None (Some 2) gives NoTime
    ∷ failed gives Failure
    ∷ [])
unfolding refresh granularity_of
refreshes = refl

-- having no source comes before both
no_source : Gives (refresh false) (reading (Some 5) (Some 2) gives NoSource ∷ failed gives NoSource ∷ [])
unfolding refresh
no_source = refl

-- Microseconds end as Seconds: the client lowers them once and the clock again
lowered_twice : (attempt (new_client 300000000) sourced (reading (Some 5) (Some 4)) 0).clock.granularity ≡ Seconds
unfolding attempt_of refresh granularity_of set_utc_time_persist set_utc_time changes a_day_apart
lowered_twice = refl

-- applying stores by the day rule, with the node's source, and wakes nobody
applied : (attempt (new_client 300000000) sourced (reading (Some 86400000000) None) 0).effects ≡ utc_reports ++ (store_moment 86400000000 ∷ [])
unfolding attempt_of refresh events_of set_utc_time_persist set_utc_time changes a_day_apart
applied = refl

applied_source : (attempt (new_client 300000000) sourced (reading (Some 5) None) 0).clock.source ≡ NodeTimeCluster
unfolding attempt_of refresh set_utc_time_persist set_utc_time changes a_day_apart
applied_source = refl

-- a reading equal to the one before, five minutes later: reported and anchored at its tick, and within a day nothing is stored
abbrev applied_once : Clock
applied_once = (attempt (new_client 300000000) sourced (reading (Some 86400000000) None) 0).clock

applied_again : attempt (new_client 300000000) applied_once (reading (Some 86400000000) None) 300000000
    ≡ record {
      client = new_client 300000000;
      clock = set_to applied_once 86400000000 Seconds NodeTimeCluster 300000000;
      effects = utc_reports;
      next = wait_for 300000000;
    }
unfolding attempt_of refresh events_of set_utc_time_persist set_utc_time a_day_apart
applied_again = refl

-- ## Waits

first_retries : Gives first_retry (0 gives 0 ∷ 59000000 gives 59000000 ∷ 60000000 gives 60000000 ∷ 61000000 gives 60000000 ∷ top gives 60000000 ∷ [])
first_retries = refl

-- after one failure, at tick 5000
abbrev failing : Client
failing = (attempt (new_client 300000000) sourced failed 5000).client

-- a failure and no time wait the retry; applied waits the period; no source waits for one and leaves the retry
nexts : Gives (λ o. (attempt failing sourced o 9).next)
    (failed gives wait_for 120000000 ∷ reading None None gives wait_for 120000000 ∷ reading (Some 5) None gives wait_for 300000000 ∷ [])
unfolding attempt_of refresh
nexts = refl

retries : Gives (λ o. (attempt failing sourced o 9).client.retry)
    (failed gives 240000000 ∷ reading None None gives 240000000 ∷ reading (Some 5) None gives 60000000 ∷ [])
unfolding attempt_of refresh
retries = refl

no_source_waits : (attempt failing (fresh 0) failed 9).next ≡ wait_for_source
unfolding attempt_of refresh
no_source_waits = refl

no_source_keeps : (attempt failing (fresh 0) failed 9).client.retry ≡ 120000000
unfolding attempt_of refresh
no_source_keeps = refl

-- periods of 0 and 1 µs, and doubling past the top of 64 bits
period_0 : (attempt (new_client 0) sourced failed 0).next ≡ wait_for 0
unfolding attempt_of refresh
period_0 = refl

period_1 : (attempt (attempt (new_client 1) sourced failed 0).client sourced failed 0).next ≡ wait_for 1
unfolding attempt_of refresh
period_1 = refl

doubled_past_top : doubled (record { period = top; retry = 2 ^ 63; missing_at = None; failure_at = None }) ≡ top
doubled_past_top = refl

-- ## Hourly marks

-- one µs before the hour is over, and at it; a tick before the mark
hours : Gives (λ tick. (attempt failing sourced failed tick).effects)
    (3600004999 gives [] ∷ 3600005000 gives (emit MissingTrustedTimeSource ∷ emit TimeFailure ∷ []) ∷ 4999 gives [] ∷ [])
unfolding attempt_of refresh events_of
hours = refl

marks : Gives (λ tick. (attempt failing sourced failed tick).client.failure_at) (4999 gives Some 5000 ∷ 3600004999 gives Some 5000 ∷ 3600005000 gives Some 3600005000 ∷ [])
unfolding attempt_of refresh
marks = refl

-- no time marks only the second event, so a failure a second later emits only the first
only_failure : (attempt (new_client 300000000) sourced (reading None None) 0).effects ≡ emit TimeFailure ∷ []
unfolding attempt_of refresh events_of
only_failure = refl

own_marks : (attempt (attempt (new_client 300000000) sourced (reading None None) 0).client sourced failed 1000000).effects ≡ emit MissingTrustedTimeSource ∷ []
unfolding attempt_of refresh events_of
own_marks = refl

-- an applied time keeps the marks
marks_kept : (attempt (attempt failing sourced (reading (Some 5) None) 60000000).client sourced failed 120000000).effects ≡ []
unfolding attempt_of refresh events_of
marks_kept = refl

-- ## A source change

source_changes : Gives (λ k. (source_changed failing k).next) (sourced gives attempt_now ∷ fresh 0 gives wait_for_source ∷ [])
unfolding source_changed
source_changes = refl

starts_over : (source_changed failing sourced).client ≡ record { period = 300000000; retry = 60000000; missing_at = Some 5000; failure_at = Some 5000 }
unfolding source_changed attempt_of refresh
starts_over = refl
