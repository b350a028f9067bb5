-- `readings::transitions::next_transition` meets its contract.
use Rattle.std.proofs.Common.{rules}
use Rattle.readings.proofs.Answered.{next_transition_is}
use Rattle.readings.proofs.transitions.next_transition.Goals as goal

pub returns : goal.returns
returns c = rw (next_transition_is c.args.image.now c.args.utc) (search rules)
