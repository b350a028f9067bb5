-- `lookups::transitions::zone_transition` meets its contract.
use Rattle.std.proofs.Common.{ap, ◌∙◌, rules, tests, fold}
use Rattle.std.proofs.lemmas.Iterator.{YieldsList-from_slice}
use Rattle.std.proofs.lemmas.Iterator.Consumers.{fold_from_yields_List}
use Rattle.lookups.proofs.Places.{past_start, zones_past}
use Rattle.lookups.proofs.transitions.zone_transition.Goals as goal

pub returns : goal.returns
returns c =
    let past = past_start c.args.utc in
    fold_from_yields_List _ past 0 c.fold.result c.fold.ensures.ran (YieldsList-from_slice c.zones.result.now (search rules)) (λ a x b q k. search (rules, tests))
    ∙ ap (fold past 0) c.zones.ensures ∙ zones_past c.args.utc c.args.table.now 0
