-- What holds of the meanings; what holds of the clock itself stands in `model` (ClockLaws).
use Rattle.std.specs.Prelude.{◌≡◌, ℕ, ◌≤◌}
use Rattle.model.specs.Claims.{NotBefore}
use Rattle.model.specs.Clock.{Clock, reading}
use Rattle.rtc.specs.declared.Rtc.{Rtc}
use Rattle.rtc.specs.declared.SourceSet.{SourceSet}
use Rattle.rtc.specs.Meaning.{clock_of, rtc_of, option_source, reading_of, reset_of, loaded_of, utc_time_set_of, utc_time_persisted_of, kind_of, source_set_of, source_persisted_of}

-- ## A contract that equates meanings leaves one result: proofs/Back.antt

-- a record comes back from the clock that it holds
abbrev pub RtcBack : Type 0
RtcBack = (r : Rtc) → rtc_of (clock_of r) ≡ r

module _ {A B : Type 0} where
  -- equal meanings are of equal values
  abbrev pub Injective : (A → B) → Type 0
  Injective f = (a b : A) → f a ≡ f b → a ≡ b

-- of the clock, of its parts and of every answer
pub record OneResult : Type 0 where
  pub source : Injective option_source
  pub rtc : Injective clock_of
  pub utc_time : Injective reading_of
  pub reset : Injective reset_of
  pub loaded : (c : Clock) → Injective (loaded_of c)
  pub utc_time_set : Injective utc_time_set_of
  pub utc_time_persisted : Injective utc_time_persisted_of
  -- of a trusted source that is set the clock and the kind of the change, and of one that is persisted the source too
  pub source_set : (a b : SourceSet) → source_set_of a ≡ source_set_of b → (a.rtc ≡ b.rtc) × (kind_of a.change ≡ kind_of b.change)
  pub source_persisted : Injective source_persisted_of

-- ## Readings: proofs/Readings.antt

-- whatever the record's fields are, a later tick never reads less
abbrev pub NeverLess : Type 0
NeverLess = (r : Rtc) (t u : ℕ) → t ≤ u → NotBefore (reading (clock_of r) t) (reading (clock_of r) u)
