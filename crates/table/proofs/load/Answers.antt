-- The entries of an accepted record stand in it, the zones and then the windows.
use Rattle.std.proofs.Common.{sym, ◌∙◌}
use Rattle.table.proofs.Records.{first_held, second_held}
use Rattle.table.proofs.load.Goals as goal

pub put_zones-at-requires : goal.put_zones-at-requires
put_zones-at-requires c = first_held c.args.stored.now _ _ c.type_inv.stored (sym c.stored.ensures.verdict ∙ c.in_ok-stored.was)

pub put_windows-requires : goal.put_windows-requires
put_windows-requires c = second_held c.args.stored.now _ _ c.type_inv.stored (sym c.stored.ensures.verdict ∙ c.in_ok-stored.was) _ c.put_zones-at.ensures.1
