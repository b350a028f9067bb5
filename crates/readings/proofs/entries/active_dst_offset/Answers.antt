-- `readings::entries::active_dst_offset` meets its contract.
use Rattle.std.proofs.Common.{rules}
use Rattle.readings.proofs.Answered.{active_offset_is}
use Rattle.readings.proofs.entries.active_dst_offset.Goals as goal

pub returns : goal.returns
returns c = rw (active_offset_is c.args.image.now c.args.utc) (search rules)
