use Rattle.std.proofs.Common.{length}
use Rattle.vectors.proofs.clock.script.Given as goal

abbrev pub decreases-loop-script : goal.decreases-loop-script
decreases-loop-script g l = length l.script.rest.now
