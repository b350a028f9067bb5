-- `lookups::transitions::walk` meets its contract: what was walked, before the walk that is left, is the whole walk.
use Rattle.lookups.proofs.Walked.{Sofar}
use Rattle.table.specs.Layout.{lists_in}
use Rattle.lookups.proofs.transitions.walk.Given as goal

abbrev pub invariant-loop-steps : goal.invariant-loop-steps
invariant-loop-steps l = Sofar (lists_in l.table) 40 l.start l.walk.moments l.steps l.at
