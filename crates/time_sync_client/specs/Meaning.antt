-- What the records of this crate stand for in the definitions. Each is injective, so a contract that equates meanings leaves one result.
use Rattle.std.specs.Prelude.{Bool, cond, List, [], ◌++◌, ℕ, Option, None, Some}
use Rattle.model.specs.Basics.{when}
use Rattle.model.specs.Answers.{Effect, emit, MissingTrustedTimeSource, TimeFailure}
use Rattle.model.specs.Clock.{utc_reports}
use Rattle.model.specs.Retries as R
use Rattle.rtc.specs.Meaning.{clock_of, moment_stored}
use Rattle.time_sync_client.specs.declared.TimeSyncClient.{TimeSyncClient}
use Rattle.time_sync_client.specs.declared.Reading as D
use Rattle.time_sync_client.specs.declared.Refresh.{Refresh}
use Rattle.time_sync_client.specs.declared.Refresh.TheVariants as F
use Rattle.time_sync_client.specs.declared.Wait.{Wait}
use Rattle.time_sync_client.specs.declared.Wait.TheVariants as W
use Rattle.time_sync_client.specs.declared.Effects.{Effects}
use Rattle.time_sync_client.specs.declared.Step.{Step}

-- the client that a record holds, whatever its fields are
abbrev pub client_of : TimeSyncClient → R.Client
client_of c =
    record {
      period = c.period;
      retry = c.retry;
      missing_at = c.missing_source_at;
      failure_at = c.time_failure_at;
    }

-- ## An attempt's outcome

abbrev pub told_of : D.Reading → R.Told
told_of r = record { utc = r.utc_time; granularity = r.granularity }

abbrev pub outcome_of : Option D.Reading → R.Outcome
outcome_of (Some r) = R.told (told_of r)
outcome_of None = R.failed

-- what an attempt got
abbrev pub refresh_of : Refresh → R.Refresh
refresh_of (F.Applied moment g) = R.Applied moment g
refresh_of F.NoTime = R.NoTime
refresh_of F.NoSource = R.NoSource
refresh_of F.Failure = R.Failure

-- ## A step

-- what comes next
abbrev pub next_of : Wait → R.Next
next_of W.AttemptNow = R.attempt_now
next_of (W.For wait) = R.wait_for wait
next_of W.ForSource = R.wait_for_source

-- what a time that was applied asks for: its reports, and the moment to store
abbrev pub setting_effects : Bool → Option ℕ → List Effect
setting_effects applied stored = cond applied utc_reports [] ++ moment_stored stored

-- MissingTrustedTimeSource comes before TimeFailure
abbrev pub event_effects : Bool → Bool → List Effect
event_effects missing failure = when missing (emit MissingTrustedTimeSource) ++ when failure (emit TimeFailure)

-- neither wakes the timer
abbrev pub effects_of : Effects → List Effect
effects_of e = setting_effects e.applied (e.stored) ++ event_effects e.missing_trusted_time_source e.time_failure

abbrev pub step_of : Step → R.Step
step_of s = record { client = client_of s.client; clock = clock_of s.rtc; effects = effects_of s.effects; next = next_of s.next }
