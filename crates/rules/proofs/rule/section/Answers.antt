-- `rules::rule::section` meets its contract: the entries behind one that fails are passed over.
use Rattle.rules.proofs.Ends.{placed}
use Rattle.rules.proofs.rule.section.Goals as goal

pub returns-then-is_err-clause-read : goal.returns-then-is_err-clause-read
returns-then-is_err-clause-read g c =
    placed g.E.Entry.read_one c.args.s.now c.args.at c.loop-index.invariant.read c.loop-index-test.true c.in_ok-entry.ensures.read c.next-next.ensures c.in_ok-next.ensures.read
