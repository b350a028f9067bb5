-- Derived equality of time sources compares their numbers, since a number names its source.
use Rattle.std.proofs.Common.{◌≡◌, ap}
use Rattle.std.proofs.lemmas.Bool.{eqb-true, eq-eqb}
use Rattle.std.proofs.lemmas.Bool.Decides.{same_from_decides}
use Rattle.std.specs.Prelude.{eqb}
use denote.Enum.Bare.{sameb, same_true, true_same}
use Rattle.model.proofs.NumbersBack.{numbers_back}
use Rattle.model.specs.Numbers.{source_number}
use Rattle.model.specs.contracts.TimeSource.{the_type}
use Rattle.model.specs.declared.TimeSource.{TimeSource}

one_source : (a b : TimeSource) → source_number a ≡ source_number b → a ≡ b
one_source a b e = cc (numbers_back.source a, numbers_back.source b)

pub same_time_source : (a b : TimeSource) → sameb the_type a b ≡ eqb (source_number a) (source_number b)
same_time_source a b =
    same_from_decides _ _
    (same_true the_type tt a b, true_same the_type a b)
    (λ t. one_source a b (eqb-true _ _ t), λ e. eq-eqb _ _ (ap source_number e))
