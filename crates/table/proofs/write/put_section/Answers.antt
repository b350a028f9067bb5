-- `write::put_section` meets its contract.
use Rattle.std.proofs.Common.{arith}
use Rattle.table.proofs.Sections.{going_start, going_more, going_end, next_room}
use Rattle.table.proofs.write.put_section.Goals as goal

pub loop-place-init : goal.loop-place-init
loop-place-init g c = let a = c.args in going_start g.P.Place.written a.places.now a.out.now a.at (omega (arith, c.requires.room))

pub put-next-requires : goal.put-next-requires
put-next-requires g c = next_room c.loop-place.invariant c.requires.room c.loop-place-test.true _ c.place-item.is

pub loop-place-preserved : goal.loop-place-preserved
loop-place-preserved g c = going_more c.loop-place.invariant c.requires.room c.loop-place-test.true _ c.place-item.is _ _ c.put-next.ensures.0 c.put-next.ensures.1

pub returns : goal.returns
returns g c = going_end c.loop-place.invariant c.loop-place-test.false
