-- `readings::store::time_zone_count` meets its contract.
use Rattle.std.proofs.Common.{rules}
use Rattle.readings.proofs.Answered.{zones_listed_is}
use Rattle.readings.proofs.store.time_zone_count.Goals as goal

pub returns : goal.returns
returns c = rw (zones_listed_is c.args.image.now) (search rules)
