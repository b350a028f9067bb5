-- The clock, `Rtc`. The firmware build moment and the tick are arguments.
use Rattle.std.specs.Prelude.{Bool, true, false, not, ◌&&◌, ◌||◌, cond, List, [], ◌∷◌, ◌++◌, ℕ, ◌+◌, ◌-◌, max, leb, eqb, Option, None, Some, is_some}
use Rattle.model.specs.declared.TimeGranularity.{TimeGranularity}
use Rattle.model.specs.declared.TimeGranularity.TheVariants.{NoTime, Minutes, Seconds, Milliseconds, Microseconds}
use Rattle.model.specs.declared.TimeSource.{TimeSource}
use Rattle.model.specs.declared.TimeSource.TheVariants as S
use Rattle.model.specs.declared.Refusal.TheVariants.{BadRecord}
use Rattle.model.specs.Numbers.{granularity_number, source_number}
use Rattle.model.specs.Basics.{Moment, Tick, held_at_top, when}
use Rattle.model.specs.Answers.{answers, done, Attribute, UTCTime, Granularity, TrustedTimeSource, MissingTrustedTimeSource, TrustedSource, Effect, report, emit, store_moment, remove_moment, store_source, remove_source, Result, unchanged}

pub record Clock : Type 0 where
  -- the UTC number: the moment last set, or the last known one
  pub utc : Moment
  -- the moment that flash holds
  pub persisted : Moment
  pub granularity : TimeGranularity
  pub source : TimeSource
  -- the tick of the last setting; none until the clock is set
  pub anchor : Option Tick
  pub trusted : Option TrustedSource

-- ## Fresh and reset

-- a fresh clock stands at the build moment and knows no time
abbrev pub fresh : ℕ → Clock
fresh build = record { utc = build; persisted = build; granularity = NoTime; source = S.None; anchor = None; trusted = None }

-- factory reset of the clock (`reset_persist`): a fresh clock, and what flash holds of it is removed
unfoldable pub reset_persist : ℕ → Result Clock (Unit {0})
reset_persist build = record { state = fresh build; answer = done; effects = remove_moment ∷ remove_source ∷ [] }

-- ## Load (`load_persist`)

-- the UTC number after a load: never below the build moment
abbrev pub stored_utc : ℕ → Option ℕ → ℕ
stored_utc build None = build
stored_utc build (Some moment) = max moment build

-- the persisted moment after a load: the stored one as it is
abbrev pub stored_persisted : ℕ → Option ℕ → ℕ
stored_persisted build None = build
stored_persisted build (Some moment) = moment

-- a fresh clock with what flash held; nothing of the clock before is left
abbrev pub loaded_clock : ℕ → Option ℕ → Option TrustedSource → Clock
loaded_clock build moment source =
    record {
      utc = stored_utc build moment;
      persisted = stored_persisted build moment;
      granularity = NoTime;
      source = S.None;
      anchor = None;
      trusted = source;
    }

-- a stored source whose fabric index is 0
abbrev pub no_fabric : Option TrustedSource → Bool
no_fabric None = false
no_fabric (Some s) = eqb s.fabric 0

-- such a source is a bad record, found before anything is reset; a load reports, stores and wakes nothing
unfoldable pub load : ℕ → Clock → Option ℕ → Option TrustedSource → Result Clock (Unit {0})
load build c moment source =
    cond (no_fabric source) (unchanged c BadRecord)
    (record { state = loaded_clock build moment source; answer = done; effects = [] })

-- ## Reading (`utc_time`)

pub data Reading : Type 0 where
  reliable : Moment → Reading
  last_known : Moment → Reading

-- with an anchor the UTC number and the ticks since, held at the top (`tick - at` is 0 for a tick before the anchor); with none the last known number
abbrev pub reading_at : Option ℕ → ℕ → ℕ → Reading
reading_at None utc tick = last_known utc
reading_at (Some at) utc tick = reliable (held_at_top (utc + (tick - at)))

unfoldable pub reading : Clock → ℕ → Reading
reading c tick = reading_at c.anchor c.utc tick

-- the moment of a reliable reading, else null
abbrev pub reliable_moment : Reading → Option ℕ
reliable_moment (reliable moment) = Some moment
reliable_moment (last_known moment) = None

-- `utc_time_granularity`: NoTime until the clock is set, whatever the record holds
unfoldable pub granularity_read : Clock → TimeGranularity
granularity_read c = cond (is_some c.anchor) c.granularity NoTime

-- `utc_time_source`: None until the clock is set
unfoldable pub source_read : Clock → TimeSource
source_read c = cond (is_some c.anchor) c.source S.None

-- ## Setting (`set_utc_time`)

-- granularity one step lower, and never lower than Minutes
abbrev pub lowered : TimeGranularity → TimeGranularity
lowered Microseconds = Milliseconds
lowered Milliseconds = Seconds
lowered Seconds = Minutes
lowered Minutes = Minutes
lowered NoTime = Minutes

-- changed: the UTC number, the lowered granularity or the source is not the one in the record
unfoldable pub changes : Clock → ℕ → TimeGranularity → TimeSource → Bool
changes c utc g s =
    not (eqb c.utc utc)
    || (not (eqb (granularity_number c.granularity) (granularity_number (lowered g)))
    || not (eqb (source_number c.source) (source_number s)))

-- the clock with a setting, anchored at the tick
abbrev pub set_to : Clock → ℕ → TimeGranularity → TimeSource → ℕ → Clock
set_to c utc g s tick =
    record {
      utc = utc;
      persisted = c.persisted;
      granularity = lowered g;
      source = s;
      anchor = Some tick;
      trusted = c.trusted;
    }

-- the three attributes that a setting reports
abbrev pub utc_reports : List Effect
utc_reports = report UTCTime ∷ report Granularity ∷ report Attribute.TimeSource ∷ []

-- every setting moves the anchor to the tick and is reported, an equal one too; it answers whether something changed
unfoldable pub set_utc_time : Clock → ℕ → TimeGranularity → TimeSource → ℕ → Result Clock Bool
set_utc_time c utc g s tick =
    record {
      state = set_to c utc g s tick;
      answer = answers (changes c utc g s);
      effects = utc_reports;
    }

-- ## Setting and storing (`set_utc_time_persist`)

abbrev pub distance : ℕ → ℕ → ℕ
distance a b = (a - b) + (b - a)

-- a day or more lies between the persisted moment and the new one, changed or not
unfoldable pub a_day_apart : Clock → ℕ → Bool
a_day_apart c utc = leb 86400000000 (distance c.persisted utc)

abbrev pub with_persisted : Clock → ℕ → Clock
with_persisted c utc =
    record {
      utc = c.utc;
      persisted = utc;
      granularity = c.granularity;
      source = c.source;
      anchor = c.anchor;
      trusted = c.trusted;
    }

-- what it answers: whether something changed, and whether the moment is stored
pub record Persisted : Type 0 where
  pub changed : Bool
  pub stored : Bool

-- stores a moment that is a day or more from the persisted one, which it then replaces
unfoldable pub set_utc_time_persist : Clock → ℕ → TimeGranularity → TimeSource → ℕ → Result Clock Persisted
set_utc_time_persist c utc g s tick =
    record {
      state = cond (a_day_apart c utc) (with_persisted (set_utc_time c utc g s tick).state utc) (set_utc_time c utc g s tick).state;
      answer = answers (record { changed = changes c utc g s; stored = a_day_apart c utc });
      effects = (set_utc_time c utc g s tick).effects ++ when (a_day_apart c utc) (store_moment utc);
    }

-- ## The trusted source

-- fabric, node and endpoint agree
abbrev pub same_source : Option TrustedSource → Option TrustedSource → Bool
same_source None None = true
same_source None (Some t) = false
same_source (Some s) None = false
same_source (Some s) (Some t) = eqb s.fabric t.fabric && (eqb s.node t.node && eqb s.endpoint t.endpoint)

abbrev pub with_trusted : Clock → Option TrustedSource → Clock
with_trusted c source =
    record {
      utc = c.utc;
      persisted = c.persisted;
      granularity = c.granularity;
      source = c.source;
      anchor = c.anchor;
      trusted = source;
    }

-- `set_trusted_time_source`: a different source is taken and reported, and clearing one emits MissingTrustedTimeSource
unfoldable pub set_trusted_time_source : Clock → Option TrustedSource → Result Clock (Unit {0})
set_trusted_time_source c source =
    record {
      state = cond (same_source c.trusted source) c (with_trusted c source);
      answer = done;
      effects = cond (same_source c.trusted source) [] (report TrustedTimeSource ∷ when (not (is_some source)) (emit MissingTrustedTimeSource));
    }

-- what becomes of the source in flash
abbrev pub source_in_flash : Option TrustedSource → Effect
source_in_flash None = remove_source
source_in_flash (Some s) = store_source s

-- `set_trusted_time_source_persist`: then the different source is stored, or the cleared one removed
unfoldable pub set_trusted_time_source_persist : Clock → Option TrustedSource → Result Clock (Unit {0})
set_trusted_time_source_persist c source =
    record {
      state = (set_trusted_time_source c source).state;
      answer = done;
      effects = (set_trusted_time_source c source).effects ++ when (not (same_source c.trusted source)) (source_in_flash source);
    }
