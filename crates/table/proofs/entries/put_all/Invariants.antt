-- The first i entries are copied.
use Rattle.table.proofs.Writing.{Copying}
use Rattle.table.proofs.entries.put_all.Given as goal

abbrev pub invariant-loop-i : goal.invariant-loop-i
invariant-loop-i g l = Copying g.P.Place.place_of g.P.Place.length_at l.s l.from l.n l.initial.table l.i l.at l.table
