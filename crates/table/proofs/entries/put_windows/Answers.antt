-- The windows stand there one after another.
use Rattle.std.proofs.Common.{◌+◌}
use Rattle.table.proofs.Held.{windows_whole}
use Rattle.table.proofs.entries.put_windows.Goals as goal

pub put_all-requires : goal.put_all-requires
put_all-requires c = let a = c.args in rw c.u8_at-n.ensures (windows_whole a.s.now (a.at + 1) _ _ c.requires)
