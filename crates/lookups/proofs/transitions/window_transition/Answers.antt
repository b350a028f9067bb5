-- `lookups::transitions::window_transition` meets its contract.
use Rattle.std.proofs.Common.{ap, ◌∙◌, rules, tests, fold}
use Rattle.std.proofs.lemmas.Iterator.{YieldsList-from_slice}
use Rattle.std.proofs.lemmas.Iterator.Consumers.{fold_from_yields_List}
use Rattle.lookups.proofs.Places.{past_both, windows_past}
use Rattle.lookups.proofs.transitions.window_transition.Goals as goal

pub returns : goal.returns
returns c =
    let past = past_both c.args.utc in
    fold_from_yields_List _ past c.args.sofar c.fold.result c.fold.ensures.ran (YieldsList-from_slice c.windows.result.now (search rules)) (λ a x b q k. search (rules, tests))
    ∙ ap (fold past c.args.sofar) c.windows.ensures ∙ windows_past c.args.utc c.args.table.now c.args.sofar
