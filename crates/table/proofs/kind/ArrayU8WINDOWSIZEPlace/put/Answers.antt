-- A window is written as its head, and its end where it has one.
use Rattle.std.proofs.Common.{sym, ◌∙◌, arith}
use Rattle.table.specs.Layout.{window_at}
use Rattle.table.proofs.Held.{window_least}
use Rattle.table.proofs.Entry.{Ended, open_end, ended}
use Rattle.table.proofs.kind.ArrayU8WINDOWSIZEPlace.put.Goals as goal
use Rattle.table.proofs.kind.ArrayU8WINDOWSIZEPlace.put.Goals.{Else-not-put_head}

pub put_head-requires : goal.put_head-requires
put_head-requires c = (omega (arith, c.told-self), omega (arith, c.requires, window_least (window_at c.args.self.now 0)))

pub returns-then-not-put_head : goal.returns-then-not-put_head
returns-then-not-put_head c = let a = c.args in open_end a.self.now c.fits-self a.out.now a.at c.put_head.ensures.1 c.told-self c.requires (sym c.put_head.ensures.0 ∙ c.if-not-put_head.true)

-- its end
end : (c : Else-not-put_head) → let a = c.args in Ended a.self.now c.fits-self a.out.now a.at c.put_head.ensures.1 c.told-self c.requires
end c = let a = c.args in ended a.self.now c.fits-self a.out.now a.at c.put_head.ensures.1 c.told-self c.requires (sym c.put_head.ensures.0 ∙ c.if-not-put_head.false)

pub slice_bounds-copy_from_slice-end : goal.slice_bounds-copy_from_slice-end
slice_bounds-copy_from_slice-end c = let m = end (goal.at.slice_bounds-copy_from_slice-end c).Else-not-put_head in omega (arith, c.requires, m.long, m.kept)

pub returns : goal.returns
returns c = let m = end (goal.at.returns c).Else-not-put_head in (m.all _ c.copy_from_slice.ensures.after, omega (arith, m.long))
