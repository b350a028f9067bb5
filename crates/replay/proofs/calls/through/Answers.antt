-- `calls::through` meets its contract.
use Rattle.std.proofs.Common.{Option, Some, is_some, List, ◌≡◌, sym, ap, ◌∙◌}
use Rattle.model.specs.History.{Call}
use Rattle.history.specs.Calls.{read_calls}
use Rattle.history.proofs.Reading.{fold_laws}
use Rattle.history.specs.Shown.{left}
use Rattle.replay.specs.Tables.{table_next, table_through}
use Rattle.replay.proofs.calls.through.Goals as goal

same_calls : (o : Option (List Call)) (calls others : List Call) → o ≡ Some calls → o ≡ Some others → calls ≡ others
same_calls o calls others e f = cc

pub loop-call-init : goal.loop-call-init
loop-call-init c = λ h.
    let whole : left c.into_iter-call-iterator.result ≡ c.args.history.now = cc in
    rw whole ((fold_laws table_next c.args.table.now c.args.history.now).begins h)

pub loop-call-preserved : goal.loop-call-preserved
loop-call-preserved c = λ h.
    (fold_laws table_next c.args.table.now c.args.history.now).goes_on_lem _ c.loop-call.table (c.loop-call.invariant h) _ _ c.in-Some.ensures.steps c.apply.new.table c.apply.ensures

pub returns : goal.returns
returns c = λ calls h.
    let f = c.loop-call.invariant (ap is_some h) in
    sym ((fold_laws table_next c.args.table.now c.args.history.now).stops _ c.loop-call.table f c.in-None.ensures.steps.0)
    ∙ ap (table_through c.args.table.now) (same_calls (read_calls c.args.history.now) f.calls calls f.read h)
