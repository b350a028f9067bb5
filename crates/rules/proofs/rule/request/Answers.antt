-- `rules::rule::request` meets its contract.
use Rattle.std.proofs.Common.{sym, ◌∙◌}
use Rattle.rules.proofs.Whole.{bytes_of, taken, by_end}
use Rattle.rules.proofs.rule.request.Goals as goal

pub returns-in-Some : goal.returns-in-Some
returns-in-Some g c =
    let e = g.E.Entry in
    let keeps = g.E.Ruled.keeps in
    let new = c.new-reader.ensures in
    let section = taken e.found_at e.next_of keeps c.args.limit (bytes_of new.0) new.1 c.in-Some.ensures.found c.in-Some.ensures.moved in
    sym (by_end e.found_at e.next_of keeps c.args.limit c.args.s.now section (rw (bytes_of (c.in-Some.ensures.same ∙ new.0)) at (sym c.if-ended.true ∙ c.ended.ensures)))

pub returns-in_default : goal.returns-in_default
returns-in_default g c =
    let e = g.E.Entry in
    let keeps = g.E.Ruled.keeps in
    let new = c.new-reader.ensures in
    let section = taken e.found_at e.next_of keeps c.args.limit (bytes_of new.0) new.1 c.in-Some.ensures.found c.in-Some.ensures.moved in
    sym (by_end e.found_at e.next_of keeps c.args.limit c.args.s.now section (rw (bytes_of (c.in-Some.ensures.same ∙ new.0)) at (sym c.if-ended.false ∙ c.ended.ensures)))
