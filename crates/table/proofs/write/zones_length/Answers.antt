-- The section of zones, by the places.
use Rattle.std.proofs.Common.{◌∙◌, arith}
use Rattle.table.proofs.Bounds.{zones_most}
use Rattle.table.proofs.Listed.{zones_long}
use Rattle.table.proofs.write.zones_length.Goals as goal

pub section_length-requires : goal.section_length-requires
section_length-requires c = let s = c.args.table.now in omega (arith, zones_long s _ c.zones.ensures, zones_most s)

pub returns : goal.returns
returns c = c.section_length.ensures ∙ zones_long c.args.table.now _ c.zones.ensures
