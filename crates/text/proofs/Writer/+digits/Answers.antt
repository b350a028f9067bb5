-- `text::Writer::digits` meets its contract: the front digits are those of a tenth of the number.
use Rattle.std.proofs.Common.{◌≡◌, ◌++◌, ◌/◌, arith, sym, ap, length-append, length}
use Rattle.model.specs.Schedule.{decimal}
use Rattle.text.proofs.Digits.{decimal_one, decimal_more, decimal_length, digit}
use Rattle.text.proofs.Runs.{no_word, more, wrote, wrote_as}
use Rattle.text.proofs.Writer.+digits.Goals as goal

pub returns-then-n-lt10 : goal.returns-then-n-lt10
returns-then-n-lt10 t c = wrote_as (sym (decimal_one c.args.n (omega arith))) c.word.ensures

pub returns : goal.returns
returns t c =
    let n = c.args.n in
    let whole : decimal n ≡ decimal (n / 10) ++ digit n = decimal_more n (omega arith) (omega arith) in
    let front = more (no_word (omega arith)) 20 c.digits.ensures (decimal_length (n / 10)) (omega (arith, decimal_length (n / 10))) in
    wrote_as (sym whole) (wrote (more front 1 c.word-2.ensures (omega arith) (omega (arith, decimal_length n, ap length whole, length-append (decimal (n / 10)) (digit n)))))
