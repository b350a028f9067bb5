use Rattle.std.proofs.Common.{length}
use Rattle.vectors.proofs.device.script.Given as goal

abbrev pub decreases-loop-step : goal.decreases-loop-step
decreases-loop-step g l = length l.script.rest.now
