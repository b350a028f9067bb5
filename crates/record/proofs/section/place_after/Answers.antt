-- `record::section::place_after` meets its contract.
use Rattle.std.proofs.Common.{◌≡◌, sym, ap, ◌∙◌, suc, ◌+◌, ◌-◌, option_map, arith}
use Rattle.record.specs.Fronts.{place_after}
use Rattle.record.proofs.Indexed.{place_more}
use Rattle.record.proofs.Sections.{goes_on_lem}
use Rattle.record.proofs.section.place_after.Goals as goal

pub loop-preserved : goal.loop-preserved
loop-preserved g c =
    let e = g.E.Entry in
    let s = c.args.s.now in
    let more : c.args.n - c.loop.counter ≡ suc (c.args.n - (c.loop.counter + 1)) = omega (arith, c.loop-test.true) in
    let goes = ap (option_map e.next_of) (sym c.in_ok-read_at.ensures.found) in
    rw c.next-next.ensures
    (record {
      found = c.loop.invariant.found ∙ ap (place_after e.found_at e.next_of s c.loop.next) more ∙ place_more e.found_at e.next_of s _ _ goes;
      read = λ h. let r = c.loop.invariant.read h in goes_on_lem e.read_one s c.loop.counter r c.loop-test.true (c.in_ok-read_at.ensures.read r.within);
    })
