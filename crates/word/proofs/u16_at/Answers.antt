-- `word::u16_at` meets its contract; by `grind`, so that another body is judged by the number that it answers.
use Rattle.std.proofs.Common.{arith}
use Rattle.word.proofs.Parts.{read, unread}
use Rattle.word.proofs.u16_at.Goals as goal

pub returns-in_err-array_at : goal.returns-in_err-array_at
returns-in_err-array_at c = unread 2 c.args.s.now c.args.at c.array_at.ensures c.in_err-array_at.was c.from_residual.ensures

pub returns : goal.returns
returns c = grind (arith, read 1 c.args.s.now c.args.at c.in_ok-array_at.field-0 c.array_at.ensures c.in_ok-array_at.was c.from_le_bytes.ensures)
