-- A number that a writer wrote where there is room for the longest one, with a sign before it.
use Rattle.std.proofs.Common.{List, ℕ, ◌+◌, ◌≤◌, ◌++◌, length, arith}
use Rattle.model.specs.Schedule.{decimal}
use Rattle.text.specs.declared.Writer.{Writer}
use Rattle.text.specs.Written.{Wrote}
use Rattle.text.proofs.Digits.{decimal_length}
use Rattle.text.proofs.Runs.{Run, no_word, more, same_length}

module _ {w u : Writer} {sign : List ℕ} (s : Wrote w u sign) (short : length sign ≤ 1) (h : w.at + 21 ≤ length w.out.now) where
  sign_run : Run w u sign 1
  sign_run = more (no_word (omega arith)) 1 s short (omega arith)

  pub room_after_sign : u.at + 20 ≤ length u.out.now
  room_after_sign = omega (arith, same_length sign_run, sign_run.place)

  pub number_run : {v : Writer} (n : ℕ) → Wrote u v (decimal n) → Run w v (sign ++ decimal n) 21
  number_run n p = more sign_run 20 p (decimal_length n) (omega (arith, decimal_length n))
