-- `sized` meets its contract: the number that its first four bytes spell.
use Rattle.std.proofs.Common.{◌≡◌, length, length-take, ◌∙◌, ap, take, arith}
use Rattle.std.proofs.lemmas.Grind.{common_steps}
use Rattle.model.specs.Bytes.{take_bytes, number}
use Rattle.word.proofs.Endian.{from_le}
use Rattle.history.specs.Calls.{read_sized}
use Rattle.history.proofs.sized.Goals as goal

pub returns : goal.returns
unfolding read_sized take_bytes
returns c =
    let size = c.in_ok-size.ensures.cases in
    let l : length c.in_ok-size.size.now ≡ 4 = omega (arith, ap length size.0, length-take 4 c.args.s.now, size.2) in
    let n : c.from_le_bytes-len.result ≡ number (take 4 c.args.s.now) = c.from_le_bytes-len.ensures ∙ from_le 3 c.in_ok-size.size.now l ∙ ap number size.0 in
    grind (arith, common_steps)
