-- The zones stand there one after another.
use Rattle.std.proofs.Common.{◌+◌}
use Rattle.table.proofs.Held.{zones_whole}
use Rattle.table.proofs.entries.put_zones.Goals as goal

pub put_all-requires : goal.put_all-requires
put_all-requires c = let a = c.args in rw c.u8_at-n.ensures (zones_whole a.s.now (a.at + 1) _ _ c.requires)
