-- `lookups::zones::active_time_zone` meets its contract.
use Rattle.std.proofs.Common.{◌∙◌, rules, tests}
use Rattle.model.specs.Lookups.{started}
use Rattle.lookups.proofs.Places.{zone_of, passes}
use Rattle.lookups.proofs.Back.{last_place, active_is, active_found}
use Rattle.lookups.proofs.zones.active_time_zone.Goals as goal

pub returns : goal.returns
returns c =
    let a = c.args in
    let ps = c.zones.result.now in
    let rest = c.iter.ensures.rest in
    let r = c.rposition-active in
    let found = last_place _ (passes zone_of (started a.utc)) ps _ r.result (search rules) r.ensures.ran (λ x b q k. search (rules, tests)) (search rules) in
    active_found a.table.now a.utc r.result c.and_then.result c.unwrap_or_default.result (found ∙ active_is a.table.now a.utc ps c.zones.ensures) (search rules) (search rules)
