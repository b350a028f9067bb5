-- `readings::store::dst_offset_count` meets its contract.
use Rattle.std.proofs.Common.{rules}
use Rattle.readings.proofs.Answered.{windows_listed_is}
use Rattle.readings.proofs.store.dst_offset_count.Goals as goal

pub returns : goal.returns
returns c = rw (windows_listed_is c.args.image.now) (search rules)
