-- A local time by value is told by what it stands for.
use Rattle.std.proofs.Common.{arith}
use Rattle.std.proofs.lemmas.Grind.{common_steps}
use Rattle.local_time.specs.Laws.{OneLocalTime}

pub one_local_time : OneLocalTime
one_local_time a b e = grind (arith, common_steps)
