-- `lookups::windows::dst_usable` meets its contract.
use Rattle.std.proofs.Common.{reverse, ap, ◌∙◌, rules, tests}
use Rattle.std.proofs.lemmas.Iterator.Adapters.{YieldsList-from_rev_slice}
use Rattle.std.proofs.lemmas.Iterator.Search.{any_from_yields_List}
use Rattle.std.specs.List.{list_any}
use Rattle.model.specs.Lookups.{is_usable, usable}
use Rattle.lookups.proofs.Places.{window_of, passes, some_window}
use Rattle.lookups.proofs.windows.dst_usable.Goals as goal

pub returns : goal.returns
unfolding usable
returns c =
    let test = passes window_of (is_usable c.args.utc) in
    any_from_yields_List test _ _ c.any.result c.any.ensures.ran (YieldsList-from_rev_slice c.windows.result.now (search rules)) (λ x b q k. search (rules, tests))
    ∙ ap (λ ps. list_any test (reverse ps)) c.windows.ensures ∙ some_window c.args.table.now (is_usable c.args.utc)
