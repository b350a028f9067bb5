-- `schedule_text::lines::put_lines` meets its contract: the lines of the moments so far are written.
use Rattle.table.specs.Layout.{lists_in}
use Rattle.schedule_text.proofs.Words.{Lines}
use Rattle.schedule_text.proofs.lines.put_lines.Given as goal

abbrev pub invariant-loop-moment : goal.invariant-loop-moment
invariant-loop-moment l = Lines (lists_in l.table) l.moments l.initial.out l.moment-index l.out
