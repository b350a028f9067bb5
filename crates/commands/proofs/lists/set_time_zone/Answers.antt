-- `lists::set_time_zone` meets its contract.
use Rattle.std.proofs.Common.{rules, Ok, Err, ◌∙◌}
use Rattle.model.specs.Bytes.{number}
use Rattle.model.specs.Codes.{returned}
use Rattle.model.specs.Handler as H
use Rattle.table.specs.Left.{time_zone_said, time_zone_left}
use Rattle.table.proofs.Requests.{are_bytes}
use Rattle.commands.specs.Calls.{zones_set}
use Rattle.commands.proofs.Stores.{zones_end}
use Rattle.commands.proofs.lists.set_time_zone.Goals as goal

pub returns-in-Ok : goal.returns-in-Ok
unfolding zones_set H.set_time_zone returned number
returns-in-Ok c =
    let a = c.args in
    let b = a.request.now in
    let w = are_bytes b (λ k. (c.type_inv.request k).fits) in
    zones_end a.image.now b a.out.now a.used.now w (Ok c.in-Ok.n) c.set_by.new.image c.set_by.new.out
    (c.in-Ok.ensures (λ t n. time_zone_said t b n) (λ t n. time_zone_left t b n) (λ t n said u h. search rules))

pub returns-in-Err : goal.returns-in-Err
unfolding zones_set H.set_time_zone
returns-in-Err c =
    let a = c.args in
    let b = a.request.now in
    let w = are_bytes b (λ k. (c.type_inv.request k).fits) in
    let k =
    zones_end a.image.now b a.out.now a.used.now w (Err c.in-Err.cause) c.set_by.new.image c.set_by.new.out
    (c.in-Err.ensures (λ t n. time_zone_said t b n) (λ t n. time_zone_left t b n) (λ t n said u h. search rules)) in
    (c.refusal.ensures ∙ k.0, k.1, k.2, k.3)
