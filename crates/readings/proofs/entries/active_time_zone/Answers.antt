-- `readings::entries::active_time_zone` meets its contract.
use Rattle.std.proofs.Common.{rules}
use Rattle.model.specs.Handler as H
use Rattle.readings.proofs.Answered.{store_refused}
use Rattle.readings.proofs.entries.active_time_zone.Goals as goal

pub returns-in-Err : goal.returns-in-Err
unfolding H.active_zone
returns-in-Err c = rw (store_refused _ c.args.image.now c.in-Err.cause c.in-Err.ensures) (search rules)
