-- `record::section::place_after` meets its contract: the entries that are still to be read stand from `next` on.
use Rattle.std.proofs.Common.{◌≡◌, ◌-◌, ◌≤◌, length}
use Rattle.record.specs.Fronts.{place_after}
use Rattle.record.proofs.Sections.{Reading}
use Rattle.record.proofs.section.place_after.Given as goal

abbrev pub invariant-loop : goal.invariant-loop
invariant-loop g l = let e = g.E.Entry in record {
  found : place_after e.found_at e.next_of l.s l.at l.n ≡ place_after e.found_at e.next_of l.s l.next (l.n - l.counter);
  read : l.at ≤ length l.s → Reading e.read_one l.s l.at l.n (l.n - l.counter) l.next;
}
