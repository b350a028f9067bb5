-- `readings::entries::time_zone` meets its contract.
use Rattle.std.proofs.Common.{rules}
use Rattle.model.specs.Handler as H
use Rattle.readings.proofs.Answered.{store_refused, zone_some}
use Rattle.readings.proofs.entries.time_zone.Goals as goal

pub returns-in-Err : goal.returns-in-Err
unfolding H.zone_at
returns-in-Err c = rw (store_refused _ c.args.image.now c.in-Err.cause c.in-Err.ensures) (search rules)

pub returns-in-Err-show_zone : goal.returns-in-Err-show_zone
returns-in-Err-show_zone c =
    let a = c.args in
    let t = c.in-Ok.table.now in
    rw (zone_some a.image.now t (search rules) a.index c.in-Some.zone (search rules)) (search rules)
