-- A number names what has it.
use Rattle.std.proofs.Common.{Some, ◌≡◌, refl}
use Rattle.model.specs.declared.TimeGranularity.{TimeGranularity}
use Rattle.model.specs.declared.TimeGranularity.TheVariants as G
use Rattle.model.specs.declared.TimeSource.{TimeSource}
use Rattle.model.specs.declared.TimeSource.TheVariants as S
use Rattle.model.specs.declared.Refusal.{Refusal}
use Rattle.model.specs.declared.Refusal.TheVariants as R
use Rattle.model.specs.Numbers.{granularity_number, granularity_of, source_number, source_of, refusal_number, refusal_of}
use Rattle.model.specs.Claims.{NumbersBack}

granularity : (x : TimeGranularity) → granularity_of (granularity_number x) ≡ Some x
unfolding granularity_of
granularity G.NoTime = refl
granularity G.Minutes = refl
granularity G.Seconds = refl
granularity G.Milliseconds = refl
granularity G.Microseconds = refl

source : (x : TimeSource) → source_of (source_number x) ≡ Some x
unfolding source_of
source S.None = refl
source S.Unknown = refl
source S.Admin = refl
source S.NodeTimeCluster = refl
source S.NonMatterSNTP = refl
source S.NonMatterNTP = refl
source S.MatterSNTP = refl
source S.MatterNTP = refl
source S.MixedNTP = refl
source S.NonMatterSNTPNTS = refl
source S.NonMatterNTPNTS = refl
source S.MatterSNTPNTS = refl
source S.MatterNTPNTS = refl
source S.MixedNTPNTS = refl
source S.CloudSource = refl
source S.PTP = refl
source S.GNSS = refl

refusal : (x : Refusal) → refusal_of (refusal_number x) ≡ Some x
unfolding refusal_of
refusal R.Unreadable = refl
refusal R.ConstraintError = refl
refusal R.ResourceExhausted = refl
refusal R.InvalidCommand = refl
refusal R.CommandNotFound = refl
refusal R.AttributeNotFound = refl
refusal R.BadRecord = refl
refusal R.BadLimits = refl
refusal R.NoSpace = refl

pub numbers_back : NumbersBack
numbers_back = record { granularity = granularity; source = source; refusal = refusal }
