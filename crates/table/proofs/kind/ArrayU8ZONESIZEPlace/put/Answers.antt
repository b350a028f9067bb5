-- A zone is written as its head, and its name where it has one.
use Rattle.std.proofs.Common.{sym, ◌∙◌, arith}
use Rattle.table.specs.Layout.{zone_at}
use Rattle.table.proofs.Held.{zone_least}
use Rattle.table.proofs.Entry.{Named, unnamed, named}
use Rattle.table.proofs.kind.ArrayU8ZONESIZEPlace.put.Goals as goal
use Rattle.table.proofs.kind.ArrayU8ZONESIZEPlace.put.Goals.{After-min-n}

pub put_head-requires : goal.put_head-requires
put_head-requires c = (omega (arith, c.told-self), omega (arith, c.requires, zone_least (zone_at c.args.self.now 0)))

pub returns-then-not-put_head : goal.returns-then-not-put_head
returns-then-not-put_head c = let a = c.args in unnamed a.self.now c.fits-self a.out.now a.at c.put_head.ensures.1 c.told-self c.requires (sym c.put_head.ensures.0 ∙ c.if-not-put_head.true)

-- its name
name : (c : After-min-n) → let a = c.args in Named a.self.now c.fits-self a.out.now a.at c.put_head.ensures.1 c.told-self c.requires c.min-n.result
name c =
    let a = c.args in
    named a.self.now c.fits-self a.out.now a.at c.put_head.ensures.1 c.told-self c.requires c.min-n.result c.min-n.ensures (sym c.put_head.ensures.0 ∙ c.if-not-put_head.false)

pub bounds-out-at : goal.bounds-out-at
bounds-out-at c = let m = name (goal.at.bounds-out-at c).After-min-n in omega (arith, c.requires, m.long, m.kept)

pub returns : goal.returns
returns c = let m = name (goal.at.returns c).After-min-n in (m.all _ c.put.ensures.1, omega (arith, m.long))
