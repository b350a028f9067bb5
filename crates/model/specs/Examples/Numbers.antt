-- The first and the last number of each kind, and one past it.
use Rattle.std.specs.Prelude.{List, [], ◌∷◌, refl, ℕ, None, Some}
use Rattle.model.specs.declared.TimeGranularity.TheVariants.{NoTime, Microseconds}
use Rattle.model.specs.declared.TimeSource.TheVariants as S
use Rattle.model.specs.declared.Refusal.TheVariants.{Unreadable, NoSpace}
use Rattle.model.specs.Numbers.{granularity_of, source_of, refusal_of}
use Rattle.model.specs.Bytes.{number}
use Rattle.model.specs.Answers.{Attribute, UTCTime, Granularity, TimeZone, DSTOffset, Effect, report, wake_timer, store_record}
use Rattle.model.specs.Codes.{returned}
use Rattle.model.specs.Examples.Cases.{Gives, ◌gives◌}

granularities : Gives granularity_of (0 gives Some NoTime ∷ 4 gives Some Microseconds ∷ 5 gives None ∷ 255 gives None ∷ [])
unfolding granularity_of
granularities = refl

sources : Gives source_of (0 gives Some S.None ∷ 15 gives Some S.PTP ∷ 16 gives Some S.GNSS ∷ 17 gives None ∷ 255 gives None ∷ [])
unfolding source_of
sources = refl

refusals : Gives refusal_of (0 gives None ∷ 1 gives Some Unreadable ∷ 9 gives Some NoSpace ∷ 10 gives None ∷ 255 gives None ∷ [])
unfolding refusal_of
refusals = refl

-- what SetTimeZone, a refused SetDSTOffset, SetUTCTime and a refusal return
returns : Gives (λ (r : ℕ × List Effect). returned r.0 r.1)
    ((0, wake_timer ∷ store_record ∷ report TimeZone ∷ report DSTOffset ∷ []) gives 0x1615403000
    ∷ (2, wake_timer ∷ []) gives 0x3002
    ∷ (0, report UTCTime ∷ report Granularity ∷ report Attribute.TimeSource ∷ wake_timer ∷ []) gives 0x3012111000
    ∷ (9, []) gives 9
    ∷ [])
unfolding returned number
returns = refl
