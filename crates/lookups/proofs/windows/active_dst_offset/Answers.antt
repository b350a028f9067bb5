-- `lookups::windows::active_dst_offset` meets its contract.
use Rattle.std.proofs.Common.{◌≡◌, option_map, ap, ◌∙◌, rules, tests}
use Rattle.std.proofs.lemmas.Iterator.{YieldsList-from_slice}
use Rattle.std.proofs.lemmas.Iterator.Search.{find_from_yields_List}
use Rattle.std.specs.List.{find}
use Rattle.model.specs.Lookups.{is_active, active_offset, active_window, offset_of}
use Rattle.lookups.proofs.Places.{window_of, passes, first_window, made, offset_found}
use Rattle.lookups.proofs.windows.active_dst_offset.Goals as goal

pub returns : goal.returns
unfolding active_offset active_window
returns c =
    let r = c.find-active.result in
    let ps = c.windows.result.now in
    let test = passes window_of (is_active c.args.utc) in
    let found : option_map (λ y. y.now) r ≡ find test ps =
    find_from_yields_List test _ _ r c.find-active.ensures.ran (YieldsList-from_slice ps (search rules)) (λ x b q k. search (rules, tests)) in
    made (λ y. (window_of y.now).offset) _ r c.map.result c.map.ensures.cases (λ x y k. search rules)
    ∙ offset_found r ∙ ap (λ o. offset_of (option_map window_of o)) found
    ∙ ap (λ qs. offset_of (option_map window_of (find test qs))) c.windows.ensures ∙ ap offset_of (first_window c.args.table.now (is_active c.args.utc))
