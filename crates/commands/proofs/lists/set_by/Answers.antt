-- `lists::set_by` meets its contract.
use Rattle.std.proofs.Common.{ℕ, Option, Err, ok_or, sym, refl, ap, ◌∙◌, arith}
use Rattle.std.proofs.lemmas.Result.{err_from_is_err_and}
use Rattle.model.specs.declared.Refusal.TheVariants.{NoSpace}
use Rattle.commands.proofs.Told.{checked, image_long, left_unchecked, table_put}
use Rattle.commands.proofs.lists.set_by.Goals as goal

pub returns-in_err-check_lists : goal.returns-in_err-check_lists
returns-in_err-check_lists g c says leaves agree =
    let s = c.args.image.now in
    let p = err_from_is_err_and c.from_residual.result c.from_residual.ensures.1 in
    rw (← c.in_err-check_lists.ensures) (sym (left_unchecked s _ _ c.in_err-check_lists.ensures), (p.1 ∙ ap Err p.2, refl))

pub slice_bounds-table-end : goal.slice_bounds-table-end
slice_bounds-table-end g c = let i = checked c.args.image.now c.in_ok-check_lists.ensures in omega (arith, image_long c.args.image.now i.0)

pub returns-in_err-call : goal.returns-in_err-call
returns-in_err-call g c says leaves agree =
    let s = c.args.image.now in
    let i = checked s c.in_ok-check_lists.ensures in
    let p = err_from_is_err_and c.from_residual-in_err-call.result c.from_residual-in_err-call.ensures.1 in
    let a = agree _ _ _ _ c.call.ensures in
    rw (← c.in_ok-check_lists.ensures, ← a.0, ← a.1, c.in_err-call.was) (table_put s _ i.0 i.1 c.call.auto.arg2, (p.1 ∙ ap Err p.2, refl))

pub returns : goal.returns
returns g c says leaves agree =
    let s = c.args.image.now in
    let i = checked s c.in_ok-check_lists.ensures in
    let a = agree _ _ _ _ c.call.ensures in
    rw (← c.in_ok-check_lists.ensures, ← a.0, ← a.1, c.in_ok-call.was)
    (table_put s _ i.0 i.1 c.call.auto.arg2, (c.ok_or.ensures.value ∙ ap (λ (n : Option ℕ). ok_or n NoSpace) c.put.ensures.length, c.put.ensures.copied))
