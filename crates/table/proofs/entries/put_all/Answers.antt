-- `entries::put_all` meets its contract.
use Rattle.std.proofs.Common.{arith}
use Rattle.table.proofs.Writing.{none_copied, next, one_copied, all_copied}
use Rattle.table.proofs.entries.put_all.Goals as goal

pub loop-i-init : goal.loop-i-init
loop-i-init g c = none_copied g.P.Place.place_of g.P.Place.length_at c.args.s.now c.args.from c.args.n c.args.table.now c.requires

pub length_at-m-requires : goal.length_at-m-requires
length_at-m-requires g c = (next c.loop-i.invariant c.loop-i-test.true).head

pub slice_bounds-put-end : goal.slice_bounds-put-end
slice_bounds-put-end g c = omega (arith, (next c.loop-i.invariant c.loop-i-test.true).whole, c.length_at-m.ensures)

pub overflow_add-at : goal.overflow_add-at
overflow_add-at g c = omega (arith, (next c.loop-i.invariant c.loop-i-test.true).whole, c.length_at-m.ensures)

pub loop-i-preserved : goal.loop-i-preserved
loop-i-preserved g c = one_copied c.loop-i.invariant c.loop-i-test.true _ _ c.length_at-m.ensures c.at.ensures (grind arith)

pub returns : goal.returns
returns g c = all_copied c.loop-i.invariant c.loop-i-test.false
