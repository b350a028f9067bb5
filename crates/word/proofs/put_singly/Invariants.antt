-- The first i bytes are written.
use Rattle.std.proofs.Common.{◌≡◌, take}
use Rattle.word.proofs.put_singly.Given as goal

abbrev pub invariant-loop-i : goal.invariant-loop-i
invariant-loop-i l = take l.i l.out ≡ take l.i l.part
