-- `lookups::transitions::walk` meets its contract: what was walked, before the walk that is left, is the whole walk.
use Rattle.std.proofs.Common.{arith, sym, ◌∙◌}
use Rattle.lookups.proofs.Walked.{few_boundaries, sofar_start, sofar_more, sofar_end, sofar_done}
use Rattle.table.specs.Layout.{lists_in}
use Rattle.lookups.proofs.Views.{few_zones, few_windows}
use Rattle.lookups.proofs.transitions.walk.Goals as goal

pub loop-steps-init : goal.loop-steps-init
loop-steps-init c =
    let s = c.args.table.now in
    sofar_start (lists_in s) 40 c.args.start (few_boundaries (lists_in s) (few_zones s) (few_windows s))

pub returns-in_default : goal.returns-in_default
returns-in_default c =
    sofar_end (lists_in c.args.table.now) 40 c.args.start _ _ c.loop-steps.at c.loop-steps.invariant (sym c.next_transition.ensures ∙ c.in_default.is)

pub loop-steps-preserved : goal.loop-steps-preserved
loop-steps-preserved c =
    sofar_more (lists_in c.args.table.now) 40 c.args.start _ _ c.loop-steps.at c.in-Some.next c.loop-steps.invariant (sym c.next_transition.ensures ∙ c.in-Some.is)

pub returns : goal.returns
returns c = sofar_done (lists_in c.args.table.now) 40 c.args.start _ _ c.loop-steps.at c.loop-steps.invariant (omega arith)
