-- The record, by the places.
use Rattle.std.proofs.Common.{◌∙◌, arith}
use Rattle.table.proofs.Bounds.{zones_most, windows_most, record_parts}
use Rattle.table.proofs.Listed.{windows_long}
use Rattle.table.proofs.write.record_length.Goals as goal
use Rattle.table.proofs.write.record_length.Goals.{After-section_length}

pub section_length-requires : goal.section_length-requires
section_length-requires c = let s = c.args.table.now in omega (arith, windows_long s _ c.windows.ensures, windows_most s)

pub overflow_add-result : goal.overflow_add-result
overflow_add-result c = let s = c.args.table.now in omega (arith, c.section_length.ensures ∙ windows_long s _ c.windows.ensures, zones_most s, windows_most s)

pub returns : goal.returns
returns c = let s = c.args.table.now in omega (arith, c.section_length.ensures ∙ windows_long s _ c.windows.ensures, record_parts s)
