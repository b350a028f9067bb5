-- `lists::reset_lists` meets its contract.
use Rattle.std.proofs.Common.{[], sym, arith}
use Rattle.model.specs.Bytes.{number}
use Rattle.model.specs.Codes.{returned}
use Rattle.model.specs.Store as M
use Rattle.model.specs.Handler as H
use Rattle.table.specs.Left.{reset_left}
use Rattle.table.proofs.Follows.{lengths_stay}
use Rattle.image.specs.Layout.{table_in}
use Rattle.commands.specs.Calls.{lists_reset}
use Rattle.commands.proofs.Told.{image_long, table_put}
use Rattle.commands.proofs.lists.reset_lists.Goals as goal

pub slice_bounds-factory_reset-end : goal.slice_bounds-factory_reset-end
slice_bounds-factory_reset-end c = omega (arith, image_long c.args.image.now (sym c.if-not-is_image.ensures))

pub returns : goal.returns
unfolding lists_reset H.reset_lists M.factory_reset returned number
returns c =
    let s = c.args.image.now in
    let i = sym c.if-not-is_image.ensures in
    let h = sym c.if-not-has_lists.ensures in
    (rw (i, h), rw c.factory_reset.ensures (table_put s (reset_left (table_in s)) i h (lengths_stay (table_in s) [] 0).reset))
