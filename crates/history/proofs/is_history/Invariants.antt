-- `is_history` meets its contract: what is left decides.
use Rattle.std.proofs.Common.{is_some, ◌≡◌, length}
use Rattle.history.specs.Calls.{read_calls}
use Rattle.history.specs.Shown.{left}
use Rattle.history.proofs.is_history.Given as goal

abbrev pub invariant-loop : goal.invariant-loop
invariant-loop l = is_some (read_calls l.s) ≡ is_some (read_calls (left l.calls))

abbrev pub decreases-loop : goal.decreases-loop
decreases-loop l = length (left l.calls)
