-- What the records of this crate stand for in the definitions. Each is injective, but for `source_set_of`, beside which a contract has
-- `source_persisted_of`; so a contract that equates meanings leaves one result.
use Rattle.std.specs.Prelude.{Bool, List, [], ◌∷◌, ◌++◌, ℕ, Option, Ok, Err, is_some, option_map, option_to_list}
use Rattle.std.specs.Prelude.{Result as StdResult}
use Rattle.model.specs.Answers.{done, answers, TrustedTimeSource, MissingTrustedTimeSource, TrustedSource, Effect, report, emit, store_moment, remove_moment, store_source, remove_source, Result, unchanged}
use Rattle.model.specs.Clock.{Clock, Reading, reliable, last_known, utc_reports, Persisted}
use Rattle.model.specs.declared.Refusal.{Refusal}
use Rattle.rtc.specs.declared.TrustedTimeSource as T
use Rattle.rtc.specs.declared.Rtc.{Rtc}
use Rattle.rtc.specs.declared.UtcTime.{UtcTime}
use Rattle.rtc.specs.declared.UtcTime.TheVariants.{Reliable, LastKnown}
use Rattle.rtc.specs.declared.UtcTimeSet.{UtcTimeSet}
use Rattle.rtc.specs.declared.UtcTimePersisted.{UtcTimePersisted}
use Rattle.rtc.specs.declared.SourceChange.{SourceChange}
use Rattle.rtc.specs.declared.SourceChange.TheVariants as C
use Rattle.rtc.specs.declared.SourceSet.{SourceSet}

-- ## The clock

-- a trusted source, field by field
abbrev pub trusted_of : T.TrustedTimeSource → TrustedSource
trusted_of t = record { fabric = t.fab_idx; node = t.node_id; endpoint = t.endpoint }

-- a trusted source, or none
abbrev pub option_source : Option T.TrustedTimeSource → Option TrustedSource
option_source source = option_map trusted_of source

-- the clock that a record holds, whatever its fields are
abbrev pub clock_of : Rtc → Clock
clock_of r =
    record {
      utc = r.utc_us;
      persisted = r.utc_us_persisted;
      granularity = r.granularity;
      source = r.source;
      anchor = r.anchor;
      trusted = option_source r.trusted_time_source;
    }

-- ## The way back

-- the struct of a trusted source
abbrev pub trusted_time_source_of : TrustedSource → T.TrustedTimeSource
trusted_time_source_of s = record { fab_idx = s.fabric; node_id = s.node; endpoint = s.endpoint }

-- the struct of a trusted source, or none
abbrev pub maybe_source : Option TrustedSource → Option T.TrustedTimeSource
maybe_source source = option_map trusted_time_source_of source

-- the record that holds a clock
abbrev pub rtc_of : Clock → Rtc
rtc_of c =
    record {
      utc_us = c.utc;
      utc_us_persisted = c.persisted;
      granularity = c.granularity;
      source = c.source;
      anchor = c.anchor;
      trusted_time_source = maybe_source c.trusted;
    }

-- ## Answers

-- a reading and whether it is reliable
abbrev pub reading_of : UtcTime → Reading
reading_of (Reliable moment) = reliable moment
reading_of (LastKnown moment) = last_known moment

-- a reset clock: both records in flash are removed
abbrev pub reset_of : Rtc → Result Clock (Unit {0})
reset_of r = record { state = clock_of r; answer = done; effects = remove_moment ∷ remove_source ∷ [] }

-- a load asks for nothing; one that is refused leaves the clock before as it is
abbrev pub loaded_of : Clock → StdResult Rtc Refusal → Result Clock (Unit {0})
loaded_of c (Ok r) = record { state = clock_of r; answer = done; effects = [] }
loaded_of c (Err cause) = unchanged c cause

-- a setting answers whether something changed, and always reports
abbrev pub utc_time_set_of : UtcTimeSet → Result Clock Bool
utc_time_set_of r = record { state = clock_of r.rtc; answer = answers r.changed; effects = utc_reports }

-- the moment that is to be stored, if there is one
abbrev pub moment_stored : Option ℕ → List Effect
moment_stored stored = option_to_list (option_map store_moment stored)

-- a persisting setting answers whether something changed and whether the moment is stored; it reports, then stores
abbrev pub utc_time_persisted_of : UtcTimePersisted → Result Clock Persisted
utc_time_persisted_of r =
    record {
      state = clock_of r.rtc;
      answer = answers (record { changed = r.changed; stored = is_some (r.stored) });
      effects = utc_reports ++ moment_stored (r.stored);
    }

-- what each change of the source reports and emits
abbrev pub change_effects : SourceChange → List Effect
change_effects C.Same = []
change_effects (C.Installed t) = report TrustedTimeSource ∷ []
change_effects C.Cleared = report TrustedTimeSource ∷ emit MissingTrustedTimeSource ∷ []

-- the kind of a change, whatever source it installs
pub data Kind : Type 0 where
  same : Kind
  installed : Kind
  cleared : Kind

abbrev pub kind_of : SourceChange → Kind
kind_of C.Same = same
kind_of (C.Installed t) = installed
kind_of C.Cleared = cleared

-- setting the trusted source answers no more than that it was taken
abbrev pub source_set_of : SourceSet → Result Clock (Unit {0})
source_set_of r = record { state = clock_of r.rtc; answer = done; effects = change_effects r.change }

-- what each change reports and emits, and then stores or removes
abbrev pub stored_effects : SourceChange → List Effect
stored_effects C.Same = []
stored_effects (C.Installed t) = report TrustedTimeSource ∷ store_source (trusted_of t) ∷ []
stored_effects C.Cleared = report TrustedTimeSource ∷ emit MissingTrustedTimeSource ∷ remove_source ∷ []

-- and so does setting and storing it
abbrev pub source_persisted_of : SourceSet → Result Clock (Unit {0})
source_persisted_of r = record { state = clock_of r.rtc; answer = done; effects = stored_effects r.change }
