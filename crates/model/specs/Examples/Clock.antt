-- The clock at the edges: ticks around an anchor, equal settings, the day rule, loads.
use Rattle.std.specs.Prelude.{Bool, true, false, [], ◌∷◌, ◌++◌, ◌≡◌, refl, ℕ, None, Some}
use Rattle.model.specs.declared.TimeGranularity.TheVariants.{NoTime, Minutes, Seconds, Milliseconds, Microseconds}
use Rattle.model.specs.declared.TimeSource.TheVariants as S
use Rattle.model.specs.declared.Refusal.TheVariants.{BadRecord}
use Rattle.model.specs.Basics.{top}
use Rattle.model.specs.Answers.{refused, answers, done, TrustedSource, report, emit, store_moment, remove_moment, store_source, remove_source, TrustedTimeSource, MissingTrustedTimeSource, Result}
use Rattle.model.specs.Clock.{Clock, fresh, reset_persist, load, reliable, last_known, reading, granularity_read, source_read, lowered, changes, set_to, utc_reports, set_utc_time, a_day_apart, with_persisted, set_utc_time_persist, with_trusted, set_trusted_time_source, set_trusted_time_source_persist}
use Rattle.model.specs.Examples.Cases.{Gives, ◌gives◌}

-- a fresh clock stands still at the build moment
fresh_reading : Gives (reading (fresh 1000)) (0 gives last_known 1000 ∷ top gives last_known 1000 ∷ [])
unfolding reading
fresh_reading = refl

-- set to 5000 at tick 70
abbrev clock : Clock
clock = (set_utc_time (fresh 1000) 5000 Microseconds S.Admin 70).state

-- ticks before the anchor, at it, after it, and so far that the sum is held
ticks : Gives (reading clock) (0 gives reliable 5000 ∷ 69 gives reliable 5000 ∷ 70 gives reliable 5000 ∷ 75 gives reliable 5005 ∷ top gives reliable top ∷ [])
unfolding set_utc_time changes reading
ticks = refl

-- set to the top: held from the first tick on
at_top : reading (set_utc_time (fresh 1000) top Microseconds S.Admin 0).state 9 ≡ reliable top
unfolding set_utc_time changes reading
at_top = refl

lower : Gives lowered
    (Microseconds gives Milliseconds ∷ Milliseconds gives Seconds ∷ Seconds gives Minutes ∷ Minutes gives Minutes ∷ NoTime gives Minutes ∷ [])
lower = refl

-- until the clock is set, granularity and source read as none, whatever the record holds
abbrev unset : Clock
unset = record { utc = 9; persisted = 9; granularity = Minutes; source = S.Admin; anchor = None; trusted = None }

granularities : Gives granularity_read (unset gives NoTime ∷ clock gives Milliseconds ∷ [])
unfolding granularity_read set_utc_time changes
granularities = refl

sources : Gives source_read (unset gives S.None ∷ clock gives S.Admin ∷ [])
unfolding source_read set_utc_time changes
sources = refl

-- the same setting again on a set clock: nothing changed, and it is reported and anchored at its tick, also at one before the anchor
abbrev again : ℕ → Result Clock Bool
again tick = set_utc_time clock 5000 Microseconds S.Admin tick

set_again : Gives again
    (90 gives record { state = set_to clock 5000 Microseconds S.Admin 90; answer = answers false; effects = utc_reports }
    ∷ 0 gives record { state = set_to clock 5000 Microseconds S.Admin 0; answer = answers false; effects = utc_reports }
    ∷ [])
unfolding set_utc_time changes
set_again = refl

reads_again : Gives (reading (again 90).state) (70 gives reliable 5000 ∷ 90 gives reliable 5000 ∷ 91 gives reliable 5001 ∷ [])
unfolding set_utc_time reading
reads_again = refl

-- what the clock reads by now does not count: 1000 at tick 0, ten minutes later 1000 once more, or what it reads then
abbrev thousand : Clock
thousand = (set_utc_time (fresh 0) 1000 Seconds S.Admin 0).state

ten_minutes : Gives (λ utc. (set_utc_time thousand utc Seconds S.Admin 600000000).answer) (1000 gives answers false ∷ 600001000 gives answers true ∷ [])
unfolding set_utc_time changes
ten_minutes = refl

reads_thousand : Gives (λ utc. reading (set_utc_time thousand utc Seconds S.Admin 600000000).state 600000000)
    (1000 gives reliable 1000 ∷ 600001000 gives reliable 600001000 ∷ [])
unfolding set_utc_time reading
reads_thousand = refl

-- NoTime, Minutes and Seconds are lowered to the same granularity, so they are one setting
one_setting : Gives (λ g. set_utc_time thousand 1000 g S.Admin 9)
    (NoTime gives record { state = set_to thousand 1000 Seconds S.Admin 9; answer = answers false; effects = utc_reports }
    ∷ Minutes gives record { state = set_to thousand 1000 Seconds S.Admin 9; answer = answers false; effects = utc_reports }
    ∷ Seconds gives record { state = set_to thousand 1000 Seconds S.Admin 9; answer = answers false; effects = utc_reports }
    ∷ Milliseconds gives record { state = set_to thousand 1000 Milliseconds S.Admin 9; answer = answers true; effects = utc_reports }
    ∷ [])
unfolding set_utc_time changes
one_setting = refl

-- one new value is enough: the moment alone, the granularity alone, the source alone
other_moment : set_utc_time clock 5001 Microseconds S.Admin 90 ≡ record { state = set_to clock 5001 Microseconds S.Admin 90; answer = answers true; effects = utc_reports }
unfolding set_utc_time changes
other_moment = refl

other_granularity : set_utc_time clock 5000 Milliseconds S.Admin 90 ≡ record { state = set_to clock 5000 Milliseconds S.Admin 90; answer = answers true; effects = utc_reports }
unfolding set_utc_time changes
other_granularity = refl

other_source : set_utc_time clock 5000 Microseconds S.GNSS 90 ≡ record { state = set_to clock 5000 Microseconds S.GNSS 90; answer = answers true; effects = utc_reports }
unfolding set_utc_time changes
other_source = refl

-- an equal setting on a clock that was not set: still nothing changed
set_unset : set_utc_time unset 9 Minutes S.Admin 4 ≡ record { state = set_to unset 9 Minutes S.Admin 4; answer = answers false; effects = utc_reports }
unfolding set_utc_time changes
set_unset = refl

-- the day rule counts from the persisted moment, both ways
days : Gives (a_day_apart (fresh 86400000000))
    (0 gives true ∷ 1 gives false ∷ 172799999999 gives false ∷ 172800000000 gives true ∷ [])
unfolding a_day_apart
days = refl

-- a setting that changes nothing is stored all the same where it is a day from the persisted moment, and then no more
abbrev apart : Clock
apart = (set_utc_time (fresh 0) 86400000000 Seconds S.Admin 1).state

stored_unchanged : set_utc_time_persist apart 86400000000 Seconds S.Admin 9
    ≡ record {
      state = with_persisted (set_to apart 86400000000 Seconds S.Admin 9) 86400000000;
      answer = answers (record { changed = false; stored = true });
      effects = utc_reports ++ (store_moment 86400000000 ∷ []);
    }
unfolding set_utc_time_persist set_utc_time changes a_day_apart
stored_unchanged = refl

stored_once : set_utc_time_persist (with_persisted apart 86400000000) 86400000000 Seconds S.Admin 9
    ≡ record {
      state = set_to (with_persisted apart 86400000000) 86400000000 Seconds S.Admin 9;
      answer = answers (record { changed = false; stored = false });
      effects = utc_reports;
    }
unfolding set_utc_time_persist set_utc_time changes a_day_apart
stored_once = refl

under_a_day : (set_utc_time_persist (fresh 0) 86399999999 Seconds S.Admin 1).effects ≡ utc_reports
unfolding set_utc_time_persist set_utc_time changes a_day_apart
under_a_day = refl

-- ## Trusted sources

abbrev source : ℕ → ℕ → ℕ → TrustedSource
source fabric node endpoint = record { fabric = fabric; node = node; endpoint = endpoint }

-- a fresh clock and a set one, each with a source
abbrev trusting : Clock
trusting = with_trusted (fresh 0) (Some (source 1 5 0))

abbrev trusting_set : Clock
trusting_set = with_trusted clock (Some (source 1 5 0))

-- a setting on a clock that has a source: the source stays, and so does the persisted moment
set_trusting : (set_utc_time trusting 5000 Seconds S.GNSS 70).state
    ≡ record { utc = 5000; persisted = 0; granularity = Minutes; source = S.GNSS; anchor = Some 70; trusted = Some (source 1 5 0) }
unfolding set_utc_time changes
set_trusting = refl

-- the same where the moment is stored
persist_trusting : (set_utc_time_persist trusting 86400000000 Seconds S.GNSS 70).state
    ≡ record { utc = 86400000000; persisted = 86400000000; granularity = Minutes; source = S.GNSS; anchor = Some 70; trusted = Some (source 1 5 0) }
unfolding set_utc_time_persist set_utc_time changes a_day_apart
persist_trusting = refl

-- a first source, another one and none on a set clock: the rest of the clock stays
source_on_set : (set_trusted_time_source clock (Some (source 1 5 0))).state
    ≡ record { utc = 5000; persisted = 1000; granularity = Milliseconds; source = S.Admin; anchor = Some 70; trusted = Some (source 1 5 0) }
unfolding set_trusted_time_source set_utc_time changes
source_on_set = refl

source_replaced : (set_trusted_time_source trusting_set (Some (source 1 6 0))).state
    ≡ record { utc = 5000; persisted = 1000; granularity = Milliseconds; source = S.Admin; anchor = Some 70; trusted = Some (source 1 6 0) }
unfolding set_trusted_time_source set_utc_time changes
source_replaced = refl

source_cleared : (set_trusted_time_source trusting_set None).state ≡ clock
unfolding set_trusted_time_source set_utc_time changes
source_cleared = refl

-- an equal one; one that differs in the fabric, in the node or in the endpoint alone; none
trusted : Gives (λ s. (set_trusted_time_source_persist trusting s).effects)
    (Some (source 1 5 0) gives []
    ∷ Some (source 2 5 0) gives (report TrustedTimeSource ∷ store_source (source 2 5 0) ∷ [])
    ∷ Some (source 1 6 0) gives (report TrustedTimeSource ∷ store_source (source 1 6 0) ∷ [])
    ∷ Some (source 1 5 1) gives (report TrustedTimeSource ∷ store_source (source 1 5 1) ∷ [])
    ∷ None gives (report TrustedTimeSource ∷ emit MissingTrustedTimeSource ∷ remove_source ∷ [])
    ∷ [])
unfolding set_trusted_time_source_persist set_trusted_time_source
trusted = refl

trusted_left : Gives (λ s. (set_trusted_time_source_persist trusting s).state.trusted)
    (Some (source 1 5 0) gives Some (source 1 5 0)
    ∷ Some (source 2 5 0) gives Some (source 2 5 0)
    ∷ Some (source 1 6 0) gives Some (source 1 6 0)
    ∷ Some (source 1 5 1) gives Some (source 1 5 1)
    ∷ None gives None
    ∷ [])
unfolding set_trusted_time_source_persist set_trusted_time_source
trusted_left = refl

never_trusted : (set_trusted_time_source_persist (fresh 0) None).effects ≡ []
unfolding set_trusted_time_source_persist set_trusted_time_source
never_trusted = refl

-- ## Load and reset

-- a stored moment below the build moment persists as it is, and the UTC number is the build moment
load_old : (load 1000 clock (Some 7) None).state ≡ record { utc = 1000; persisted = 7; granularity = NoTime; source = S.None; anchor = None; trusted = None }
unfolding load
load_old = refl

-- a stored moment above the build moment is the UTC number and the persisted moment; the stored source is the clock's
load_new : load 1000 clock (Some 2000) (Some (source 1 5 0))
    ≡ record {
      state = record { utc = 2000; persisted = 2000; granularity = NoTime; source = S.None; anchor = None; trusted = Some (source 1 5 0) };
      answer = done;
      effects = [];
    }
unfolding load
load_new = refl

-- nothing stored: the clock is fresh, set or not
load_nothing : load 1000 clock None None ≡ record { state = fresh 1000; answer = done; effects = [] }
unfolding load
load_nothing = refl

-- a stored source of fabric 0 leaves the clock as it was
load_fabric_0 : load 1000 clock None (Some (source 0 1 1)) ≡ record { state = clock; answer = refused BadRecord; effects = [] }
unfolding load
load_fabric_0 = refl

reset : reset_persist 1000 ≡ record { state = fresh 1000; answer = done; effects = remove_moment ∷ remove_source ∷ [] }
unfolding reset_persist
reset = refl
