use Rattle.std.proofs.Common.{◌≤◌, length}
use Rattle.vectors.proofs.run.Given as goal

abbrev pub invariant-loop : goal.invariant-loop
invariant-loop g l = l.kept ≤ length l.table
