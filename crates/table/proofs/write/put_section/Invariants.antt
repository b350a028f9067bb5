-- How many there are and the entries in the first places are written.
use Rattle.table.proofs.Sections.{Going}
use Rattle.table.proofs.write.put_section.Given as goal

abbrev pub invariant-loop-place : goal.invariant-loop-place
invariant-loop-place g l = Going g.P.Place.written l.places l.fn.out l.at l.place-index l.out l.next
