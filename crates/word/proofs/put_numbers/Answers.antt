-- `word::put_numbers` meets its contract.
use Rattle.std.proofs.Common.{sym, ap, ◌+◌, ◌*◌, take, get_or, ℕ, arith, take_all, length-take-le}
use Rattle.model.specs.Bytes.{bytes}
use Rattle.model.proofs.Words.{length_bytes}
use Rattle.word.proofs.Writes.{wrote_none, wrote_placed, wrote_as, all_more, numbers_bytes, length_numbers, no_numbers}
use Rattle.word.proofs.put_numbers.Goals as goal

pub loop-i-init : goal.loop-i-init
loop-i-init c = wrote_as (wrote_none (omega arith)) (numbers_bytes (take 0 c.args.numbers.now)) (sym no_numbers)

pub loop-i-preserved : goal.loop-i-preserved
loop-i-preserved c =
    let ms = c.args.numbers.now in
    let i = c.loop-i.i in
    let v = get_or ms i 0 in
    let t = length-take-le i ms (omega arith) in
    let n = length_numbers (take i ms) in
    let b = length_bytes 8 v in
    let w = wrote_placed c.loop-i.invariant (bytes 8 v) (8 * i) _ (omega arith) (omega arith) c.put_u64.ensures.1 in
    wrote_as w (numbers_bytes (take (i + 1) ms)) (sym (all_more (λ (m : ℕ). bytes 8 m) ms i 0 (omega arith)))

pub returns : goal.returns
returns c =
    let ms = c.args.numbers.now in
    (wrote_as c.loop-i.invariant (numbers_bytes ms) (ap numbers_bytes (take_all c.loop-i.i ms (omega arith)))).is
