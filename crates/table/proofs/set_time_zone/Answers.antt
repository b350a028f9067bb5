-- The zones of an accepted request stand in it.
use Rattle.std.proofs.Common.{sym, ◌∙◌}
use Rattle.table.proofs.Requests.{zones_held}
use Rattle.table.proofs.set_time_zone.Goals as goal

pub put_zones-requires : goal.put_zones-requires
put_zones-requires c = zones_held c.args.request.now _ c.type_inv.request (sym c.set_time_zone.ensures.verdict ∙ c.in_ok-set_time_zone.was)
