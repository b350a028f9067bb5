-- `rules::rule::section` meets its contract: the entries from `next` on decide, and say where it ends.
use Rattle.rules.proofs.Walk.{Ahead}
use Rattle.rules.proofs.Ends.{Rest}
use Rattle.rules.proofs.rule.section.Given as goal

abbrev pub invariant-loop-index : goal.invariant-loop-index
invariant-loop-index g l = let e = g.E.Entry in record {
  tested : Ahead e.found_at e.next_of g.E.Ruled.keeps l.limit l.s l.at l.count l.index l.next l.before;
  read : Rest e.read_one l.s l.at l.count l.index l.next;
}
