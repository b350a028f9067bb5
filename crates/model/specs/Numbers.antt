-- The numbers of granularities, time sources and refusals.
use Rattle.std.specs.Prelude.{List, [], ◌∷◌, ℕ, zero, suc, Option, None, slice_get}
use Rattle.model.specs.declared.TimeGranularity.{TimeGranularity}
use Rattle.model.specs.declared.TimeGranularity.TheVariants as G
use Rattle.model.specs.declared.TimeSource.{TimeSource}
use Rattle.model.specs.declared.TimeSource.TheVariants as S
use Rattle.model.specs.declared.Refusal.{Refusal}
use Rattle.model.specs.declared.Refusal.TheVariants as R

-- ## Granularities, 0 to 4

-- the number of a granularity, in the Rust's order
abbrev pub granularity_number : TimeGranularity → ℕ
granularity_number G.NoTime = 0
granularity_number G.Minutes = 1
granularity_number G.Seconds = 2
granularity_number G.Milliseconds = 3
granularity_number G.Microseconds = 4

-- all granularities, in the Rust's order
abbrev pub granularities : List TimeGranularity
granularities = G.NoTime ∷ G.Minutes ∷ G.Seconds ∷ G.Milliseconds ∷ G.Microseconds ∷ []

-- the granularity that a number names; none for a number above 4
unfoldable pub granularity_of : ℕ → Option TimeGranularity
granularity_of n = slice_get granularities n

-- ## Time sources, 0 to 16

-- the number of a time source, in the Rust's order
abbrev pub source_number : TimeSource → ℕ
source_number S.None = 0
source_number S.Unknown = 1
source_number S.Admin = 2
source_number S.NodeTimeCluster = 3
source_number S.NonMatterSNTP = 4
source_number S.NonMatterNTP = 5
source_number S.MatterSNTP = 6
source_number S.MatterNTP = 7
source_number S.MixedNTP = 8
source_number S.NonMatterSNTPNTS = 9
source_number S.NonMatterNTPNTS = 10
source_number S.MatterSNTPNTS = 11
source_number S.MatterNTPNTS = 12
source_number S.MixedNTPNTS = 13
source_number S.CloudSource = 14
source_number S.PTP = 15
source_number S.GNSS = 16

-- all time sources, in the Rust's order
abbrev pub sources : List TimeSource
sources =
    S.None ∷ S.Unknown ∷ S.Admin ∷ S.NodeTimeCluster ∷ S.NonMatterSNTP ∷ S.NonMatterNTP ∷ S.MatterSNTP ∷ S.MatterNTP ∷ S.MixedNTP
    ∷ S.NonMatterSNTPNTS ∷ S.NonMatterNTPNTS ∷ S.MatterSNTPNTS ∷ S.MatterNTPNTS ∷ S.MixedNTPNTS ∷ S.CloudSource ∷ S.PTP ∷ S.GNSS ∷ []

-- the time source that a number names; none for a number above 16
unfoldable pub source_of : ℕ → Option TimeSource
source_of n = slice_get sources n

-- ## Refusals, 1 to 9; a call that is not turned down has number 0

-- the number of a refusal
abbrev pub refusal_number : Refusal → ℕ
refusal_number R.Unreadable = 1
refusal_number R.ConstraintError = 2
refusal_number R.ResourceExhausted = 3
refusal_number R.InvalidCommand = 4
refusal_number R.CommandNotFound = 5
refusal_number R.AttributeNotFound = 6
refusal_number R.BadRecord = 7
refusal_number R.BadLimits = 8
refusal_number R.NoSpace = 9

-- all refusals, from number 1 on
abbrev pub refusals : List Refusal
refusals =
    R.Unreadable ∷ R.ConstraintError ∷ R.ResourceExhausted ∷ R.InvalidCommand ∷ R.CommandNotFound ∷ R.AttributeNotFound ∷ R.BadRecord
    ∷ R.BadLimits ∷ R.NoSpace ∷ []

-- the refusal that a number names; none for 0 and for a number above 9
unfoldable pub refusal_of : ℕ → Option Refusal
refusal_of zero = None
refusal_of (suc n) = slice_get refusals n
