-- `lookups::zones::zone_shown` meets its contract.
use Rattle.std.proofs.Common.{Option, Bor, List, ℕ, Some, option_map, sym, ap, ◌∙◌, rules}
use Rattle.std.proofs.lemmas.Option.{IfSome_then}
use Rattle.lookups.proofs.Places.{zone_shown, zone_read, shown_parts, named}
use Rattle.lookups.proofs.zones.zone_shown.Goals as goal

pub returns-in_err-place : goal.returns-in_err-place
returns-in_err-place c =
    let i = c.args.i in
    let shown = λ (r : Option (Bor (List ℕ))). option_map (λ y. zone_shown i y.now) r in
    c.from_residual.ensures ∙ ap shown (sym c.in_err-place.was) ∙ zone_read c.args.table.now c.zones.result.now i c.get.result c.zones.ensures c.get.ensures.lookup

pub returns : goal.returns
returns c =
    let i = c.args.i in
    let shown = λ (r : Option (Bor (List ℕ))). option_map (λ y. zone_shown i y.now) r in
    let name = named i c.in_ok-place.place.now c.then-name.result c.then-name.ensures.variant (IfSome_then c.then-name.result c.then-name.ensures.some (λ x k. search rules)) in
    ap Some (shown_parts (search rules) (search rules) name)
    ∙ ap shown (sym c.in_ok-place.was) ∙ zone_read c.args.table.now c.zones.result.now i c.get.result c.zones.ensures c.get.ensures.lookup
