-- `readings::store::dst_usable` meets its contract.
use Rattle.std.proofs.Common.{rules}
use Rattle.readings.proofs.Answered.{usable_is}
use Rattle.readings.proofs.store.dst_usable.Goals as goal

pub returns : goal.returns
returns c = rw (usable_is c.args.image.now c.args.utc) (search rules)
