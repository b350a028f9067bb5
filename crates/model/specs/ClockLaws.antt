-- What holds of the clock. The proofs stand in proofs/ClockLaws.antt; that a clock never reads less at a later tick is `NeverBack` in Claims.
use Rattle.std.specs.Prelude.{true, List, ◌≡◌, ℕ, ◌≤◌, ◌<◌, take, Option, Some}
use Rattle.model.specs.declared.TimeGranularity.{TimeGranularity}
use Rattle.model.specs.declared.TimeGranularity.TheVariants.{Seconds, Milliseconds}
use Rattle.model.specs.declared.TimeSource.{TimeSource}
use Rattle.model.specs.declared.TimeSource.TheVariants.{Admin, NodeTimeCluster}
use Rattle.model.specs.Numbers.{granularity_of}
use Rattle.model.specs.Basics.{top}
use Rattle.model.specs.Answers.{done, TrustedSource, Effect}
use Rattle.model.specs.Clock.{Clock, Reading, reliable, last_known, reading, load, granularity_read, lowered, utc_reports, set_utc_time, distance, set_utc_time_persist, set_trusted_time_source, set_trusted_time_source_persist}
use Rattle.model.specs.Handler.{Device, source_readable, set_utc_time_command}
use Rattle.model.specs.Retries.{Client, Applied, attempt_of}

-- ## Settings and readings

-- the clock `d` is set to this and anchored at the tick, and the three attributes are reported first
pub record IsSet (moment : ℕ) (g : TimeGranularity) (s : TimeSource) (tick : ℕ) (d : Clock) (effects : List Effect) : Type 0 where
  pub utc : d.utc ≡ moment
  pub granularity : d.granularity ≡ lowered g
  pub from : d.source ≡ s
  pub anchor : d.anchor ≡ Some tick
  pub reported : take 3 effects ≡ utc_reports

-- whatever the clock was, an equal setting too: by both settings, by a SetUTCTime that is readable, and by a reading that the client applies
pub record EverySetting : Type 0 where
  pub set : (c : Clock) (utc : ℕ) (g : TimeGranularity) (s : TimeSource) (tick : ℕ)
      → IsSet utc g s tick (set_utc_time c utc g s tick).state (set_utc_time c utc g s tick).effects
  pub set_persist : (c : Clock) (utc : ℕ) (g : TimeGranularity) (s : TimeSource) (tick : ℕ)
      → IsSet utc g s tick (set_utc_time_persist c utc g s tick).state (set_utc_time_persist c utc g s tick).effects
  pub command : (d : Device) (utc number : ℕ) (g : TimeGranularity) (source : Option ℕ) (tick : ℕ)
      → granularity_of number ≡ Some g → source_readable source ≡ true
      → IsSet utc g Admin tick (set_utc_time_command d utc number source tick).state.clock (set_utc_time_command d utc number source tick).effects
  pub applied : (c : Client) (k : Clock) (utc : ℕ) (g : TimeGranularity) (tick : ℕ)
      → IsSet utc g NodeTimeCluster tick (attempt_of c k (Applied utc g) tick).clock (attempt_of c k (Applied utc g) tick).effects

-- a setting reads back at its tick
abbrev pub SettingReadsBack : Type 0
SettingReadsBack =
    (c : Clock) (utc : ℕ) (g : TimeGranularity) (s : TimeSource) (tick : ℕ)
    → utc ≤ top → reading (set_utc_time c utc g s tick).state tick ≡ reliable utc

-- after a setting the granularity reads one step lower
abbrev pub ReadsLowered : Type 0
ReadsLowered =
    (c : Clock) (utc : ℕ) (g : TimeGranularity) (s : TimeSource) (tick : ℕ)
    → granularity_read (set_utc_time c utc g s tick).state ≡ lowered g

-- Microseconds, which a client hands over as Milliseconds, end at Seconds
abbrev pub EndsAtSeconds : Type 0
EndsAtSeconds =
    (c : Clock) (utc : ℕ) (s : TimeSource) (tick : ℕ)
    → granularity_read (set_utc_time_persist c utc Milliseconds s tick).state ≡ Seconds

-- ## The trusted source

-- a setting keeps the trusted source, whether the moment is stored or not
abbrev pub SettingKeepsSource : Type 0
SettingKeepsSource =
    (c : Clock) (utc : ℕ) (g : TimeGranularity) (s : TimeSource) (tick : ℕ)
    → ((set_utc_time c utc g s tick).state.trusted ≡ c.trusted) × ((set_utc_time_persist c utc g s tick).state.trusted ≡ c.trusted)

-- the clock `d` is `c` with this trusted source and nothing else new
pub record OnlySource (c : Clock) (source : Option TrustedSource) (d : Clock) : Type 0 where
  pub utc : d.utc ≡ c.utc
  pub persisted : d.persisted ≡ c.persisted
  pub granularity : d.granularity ≡ c.granularity
  pub from : d.source ≡ c.source
  pub anchor : d.anchor ≡ c.anchor
  pub trusted : d.trusted ≡ source

-- a source change leaves the source that it was given and keeps the rest of the clock
abbrev pub SourceChangeKeepsRest : Type 0
SourceChangeKeepsRest =
    (c : Clock) (source : Option TrustedSource)
    → OnlySource c source (set_trusted_time_source c source).state × OnlySource c source (set_trusted_time_source_persist c source).state

-- ## Loading

-- a last known moment that is not before the build moment
abbrev pub LastKnownFrom : ℕ → Reading → Type 0
LastKnownFrom build (reliable moment) = ⊥
LastKnownFrom build (last_known moment) = build ≤ moment

-- a load that is taken never reads below the build moment
abbrev pub NeverBelowBuild : Type 0
NeverBelowBuild =
    (build : ℕ) (c : Clock) (moment : Option ℕ) (source : Option TrustedSource) (tick : ℕ)
    → (load build c moment source).answer ≡ done → LastKnownFrom build (reading (load build c moment source).state tick)

-- ## Storing

-- after every persisting call the persisted moment is less than a day from the set one
abbrev pub WithinADay : Type 0
WithinADay =
    (c : Clock) (utc : ℕ) (g : TimeGranularity) (s : TimeSource) (tick : ℕ)
    → distance (set_utc_time_persist c utc g s tick).state.persisted utc < 86400000000
