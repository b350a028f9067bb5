-- No call asks for more than four effects.
use Rattle.std.proofs.Common.{Option, None, Some, is_some, Bool, true, false, not, ◌&&◌, cond, List, [], ◌∷◌, ◌++◌, ℕ, zero, suc, ◌≤◌, arith, lit≤, length, length-append}
use Rattle.model.specs.declared.TimeGranularity.{TimeGranularity}
use Rattle.model.specs.declared.TimeSource.{TimeSource}
use Rattle.model.specs.declared.TimeSource.TheVariants.{Admin, NodeTimeCluster}
use Rattle.model.specs.Basics.{when}
use Rattle.model.specs.Numbers.{granularity_of}
use Rattle.model.specs.Lists.{Window, Lists}
use Rattle.model.specs.Answers.{report, emit, wake_timer, wake_client, TrustedTimeSource, MissingTrustedTimeSource, TimeFailure, TrustedSource, store_moment, DSTStatus, DSTTableEmpty, TimeZoneStatus}
use Rattle.model.specs.Rules.{Verdict, accepted, turned_down, test_windows}
use Rattle.model.specs.Bytes.{read_windows}
use Rattle.model.specs.History.{SetTimeZone, Load, verdict}
use Rattle.model.specs.Lookups.{active_zone, active_offset}
use Rattle.model.specs.Clock as C
use Rattle.model.specs.Clock.{Clock, Reading, reliable, last_known, no_fabric, set_utc_time, a_day_apart, set_utc_time_persist, same_source, source_in_flash}
use Rattle.model.specs.Store as T
use Rattle.model.specs.Store.{Store}
use Rattle.model.specs.Handler as H
use Rattle.model.specs.Handler.{Device, Named, source_readable, utc_time_asked, source_of_fabric}
use Rattle.model.specs.Timer.{Timer, seen_at, zone_due, active_due, empty_due, events_at, look}
use Rattle.model.specs.Retries.{Client, Refresh, NoTime, NoSource, Failure, Applied, source_missing, time_missing, Outcome, refresh, due, clock_effects, events_of, attempt_of, attempt}
use Rattle.model.specs.CodeLaws.{FewEffects}
use Rattle.model.proofs.Facts.{by_test}

one : {A : Type 0} (b : Bool) (x : A) → length (when b x) ≤ 1
one true x = lit≤ tt
one false x = lit≤ tt

-- ## The clock

set_few : (c : Clock) (utc : ℕ) (g : TimeGranularity) (s : TimeSource) (tick : ℕ) → length (set_utc_time c utc g s tick).effects ≤ 3
unfolding set_utc_time
set_few c utc g s tick = lit≤ tt

persist_few : (c : Clock) (utc : ℕ) (g : TimeGranularity) (s : TimeSource) (tick : ℕ) → length (set_utc_time_persist c utc g s tick).effects ≤ 4
unfolding set_utc_time_persist
persist_few c utc g s tick =
    omega (
      arith,
      length-append (set_utc_time c utc g s tick).effects (when (a_day_apart c utc) (store_moment utc)),
      set_few c utc g s tick,
      one (a_day_apart c utc) (store_moment utc),
    )

source_few : (c : Clock) (source : Option TrustedSource) → length (C.set_trusted_time_source_persist c source).effects ≤ 3
unfolding C.set_trusted_time_source_persist C.set_trusted_time_source
source_few c source = go (same_source c.trusted source) (not (is_some source))
  where
    go : (same cleared : Bool)
        → length (cond same [] (report TrustedTimeSource ∷ when cleared (emit MissingTrustedTimeSource)) ++ when (not same) (source_in_flash source)) ≤ 3
    go true cleared = lit≤ tt
    go false true = lit≤ tt
    go false false = lit≤ tt

-- ## The handler

utc_few : (d : Device) (utc granularity : ℕ) (source : Option ℕ) (tick : ℕ) → length (H.set_utc_time_command d utc granularity source tick).effects ≤ 4
unfolding H.set_utc_time_command
utc_few d utc granularity source tick = go (granularity_of granularity) (source_readable source)
  where
    go : (g : Option TimeGranularity) (readable : Bool) → length (utc_time_asked d utc g readable tick).effects ≤ 4
    go None readable = lit≤ tt
    go (Some g) false = lit≤ tt
    go (Some g) true =
        omega (
          arith,
          length-append (set_utc_time d.clock utc g Admin tick).effects (when (is_some d.store) wake_timer),
          set_few d.clock utc g Admin tick,
          one (is_some d.store) wake_timer,
        )

named_few : (d : Device) (fabric : ℕ) (named : Option Named) → length (H.set_trusted_time_source d fabric named).effects ≤ 4
unfolding H.set_trusted_time_source
named_few d zero named = lit≤ tt
named_few d (suc f) named =
    let source = source_of_fabric (suc f) named in
    omega (arith, length-append (C.set_trusted_time_source_persist d.clock source).effects (wake_client ∷ []), source_few d.clock source)

zones_few : (d : Device) (request : List ℕ) → length (H.set_time_zone d request).effects ≤ 4
unfolding H.set_time_zone T.set_time_zone
zones_few d request = go d.store
  where
    said : (s : Store) (v : Verdict) → length (T.time_zone_set s request v).effects ≤ 4
    said s accepted = lit≤ tt
    said s (turned_down cause) = lit≤ tt

    go : (o : Option Store) → length (H.command d o (λ s. T.set_time_zone s request)).effects ≤ 4
    go None = lit≤ tt
    go (Some s) = said s (verdict s.rules (SetTimeZone request))

windows_few : (d : Device) (request : List ℕ) → length (H.set_dst_offset d request).effects ≤ 4
unfolding H.set_dst_offset T.set_dst_offset
windows_few d request = go d.store
  where
    said : (s : Store) (v : Verdict) → length (T.windows_tested s request v).effects ≤ 4
    said s accepted = lit≤ tt
    said s (turned_down cause) = lit≤ tt

    found : (s : Store) (o : Option (List Window)) → length (T.windows_read s request o).effects ≤ 4
    found s None = lit≤ tt
    found s (Some ws) = said s (test_windows s.rules ws)

    go : (o : Option Store) → length (H.command d o (λ s. T.set_dst_offset s request)).effects ≤ 4
    go None = lit≤ tt
    go (Some s) = found s (read_windows request)

load_few : (d : Device) (stored : Option (List ℕ)) → length (H.load_lists d stored).effects ≤ 4
unfolding H.load_lists T.load
load_few d stored = go d.store
  where
    said : (s : Store) (v : Verdict) → length (T.store_loaded s stored v).effects ≤ 4
    said s accepted = lit≤ tt
    said s (turned_down cause) = lit≤ tt

    go : (o : Option Store) → length (H.lifecycle d o (λ s. T.load s stored)).effects ≤ 4
    go None = lit≤ tt
    go (Some s) = said s (verdict s.rules (Load stored))

reset_few : (d : Device) → length (H.reset_lists d).effects ≤ 4
unfolding H.reset_lists T.factory_reset
reset_few d = go d.store
  where
    go : (o : Option Store) → length (H.lifecycle d o (λ s. T.factory_reset s)).effects ≤ 4
    go None = lit≤ tt
    go (Some s) = lit≤ tt

clock_load_few : (build : ℕ) (d : Device) (moment : Option ℕ) (source : Option TrustedSource) → length (H.load_clock build d moment source).effects ≤ 4
unfolding H.load_clock C.load
clock_load_few build d moment source = by_test (no_fabric source) (λ e. rw e (lit≤ tt)) (λ e. rw e (lit≤ tt))

clock_reset_few : (build : ℕ) (d : Device) → length (H.reset_clock build d).effects ≤ 4
unfolding H.reset_clock C.reset_persist
clock_reset_few build d = lit≤ tt

-- ## The timer and the client

look_few : (timer : Timer) (lists : Option Lists) (reading : Reading) → length (look timer lists reading).events ≤ 4
unfolding look events_at
look_few timer None reading = lit≤ tt
look_few timer (Some l) (last_known now) = lit≤ tt
look_few timer (Some l) (reliable now) =
    let zone = TimeZoneStatus (active_zone l now).offset (active_zone l now).name in
    let active = DSTStatus (is_some (active_offset l now)) in
    let seen = seen_at l now in
    omega (
      arith,
      length-append (when (zone_due timer seen) zone) (when (active_due timer seen) active ++ when (empty_due timer seen) DSTTableEmpty),
      length-append (when (active_due timer seen) active) (when (empty_due timer seen) DSTTableEmpty),
      one (zone_due timer seen) zone,
      one (active_due timer seen) active,
      one (empty_due timer seen) DSTTableEmpty,
    )

events_few : (c : Client) (r : Refresh) (tick : ℕ) → length (events_of c r tick) ≤ 2
unfolding events_of
events_few c r tick =
    let missing = source_missing r && due c.missing_at tick in
    let failure = time_missing r && due c.failure_at tick in
    omega (
      arith,
      length-append (when missing (emit MissingTrustedTimeSource)) (when failure (emit TimeFailure)),
      one missing (emit MissingTrustedTimeSource),
      one failure (emit TimeFailure),
    )

attempt_few : (c : Client) (k : Clock) (outcome : Outcome) (tick : ℕ) → length (attempt c k outcome tick).effects ≤ 4
unfolding attempt_of events_of
attempt_few c k outcome tick = go (refresh (is_some k.trusted) outcome)
  where
    no_event : (utc : ℕ) (g : TimeGranularity) → length (events_of c (Applied utc g) tick) ≤ 0
    no_event utc g = lit≤ tt

    go : (r : Refresh) → length (attempt_of c k r tick).effects ≤ 4
    go NoTime = omega (arith, events_few c NoTime tick)
    go NoSource = omega (arith, events_few c NoSource tick)
    go Failure = omega (arith, events_few c Failure tick)
    go (Applied utc g) =
        omega (
          arith,
          length-append (clock_effects k (Applied utc g) tick) (events_of c (Applied utc g) tick),
          persist_few k utc g NodeTimeCluster tick,
          no_event utc g,
        )

pub few_effects : FewEffects
few_effects =
    record {
      set_utc_time_command = utc_few;
      set_source = named_few;
      set_time_zone = zones_few;
      set_dst_offset = windows_few;
      load_lists = load_few;
      reset_lists = reset_few;
      load_clock = clock_load_few;
      reset_clock = clock_reset_few;
      set = λ c utc g s tick. omega (arith, set_few c utc g s tick);
      set_persist = persist_few;
      look = look_few;
      attempt = attempt_few;
    }
