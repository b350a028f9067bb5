-- The first i numbers are written.
use Rattle.std.proofs.Common.{take}
use Rattle.word.proofs.Writes.{Wrote, numbers_bytes}
use Rattle.word.proofs.put_numbers.Given as goal

abbrev pub invariant-loop-i : goal.invariant-loop-i
invariant-loop-i l = Wrote l.initial.out 0 (numbers_bytes (take l.i l.numbers)) l.out
