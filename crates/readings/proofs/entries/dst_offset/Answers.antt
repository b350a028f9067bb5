-- `readings::entries::dst_offset` meets its contract.
use Rattle.std.proofs.Common.{rules}
use Rattle.model.specs.Handler as H
use Rattle.readings.proofs.Answered.{store_refused}
use Rattle.readings.proofs.entries.dst_offset.Goals as goal

pub returns-in-Err : goal.returns-in-Err
unfolding H.window_at
returns-in-Err c = rw (store_refused _ c.args.image.now c.in-Err.cause c.in-Err.ensures) (search rules)
