-- `calls::through` meets its contract.
use Rattle.std.proofs.Common.{is_some, true, ◌≡◌}
use Rattle.history.specs.Calls.{read_calls}
use Rattle.history.specs.Laws.{Fold}
use Rattle.history.specs.Shown.{left}
use Rattle.replay.specs.Tables.{table_next}
use Rattle.replay.proofs.calls.through.Given as goal

abbrev pub invariant-loop-call : goal.invariant-loop-call
invariant-loop-call l = is_some (read_calls l.history) ≡ true → Fold table_next l.initial.table l.history (left l.call-iterator) l.table
