-- The windows of an accepted request stand in it.
use Rattle.std.proofs.Common.{sym, ◌∙◌}
use Rattle.table.proofs.Requests.{windows_held}
use Rattle.table.proofs.set_dst_offset.Goals as goal

pub put_windows-requires : goal.put_windows-requires
put_windows-requires c = windows_held c.args.request.now _ c.type_inv.request (sym c.set_dst_offset.ensures.verdict ∙ c.in_default.is)
