-- `text::Writer::number` meets its contract: the sign and the digits are a word.
use Rattle.std.proofs.Common.{ap, ◌∙◌, arith, length}
use Rattle.text.proofs.Runs.{wrote_as, front_fits, front_is}
use Rattle.text.proofs.Numbers.{room_after_sign, number_run}
use Rattle.text.proofs.Writer.number.Goals as goal

pub digits-requires : goal.digits-requires
digits-requires c = room_after_sign c.word.ensures c.requires (omega (arith, ap length c.new-number.ensures.bytes))

pub written-requires : goal.written-requires
written-requires c = front_fits (number_run c.word.ensures c.requires (omega (arith, ap length c.new-number.ensures.bytes)) c.args.n c.digits.ensures)

pub returns : goal.returns
returns c =
    let r = number_run c.word.ensures c.requires (omega (arith, ap length c.new-number.ensures.bytes)) c.args.n c.digits.ensures in
    wrote_as (c.written.ensures ∙ front_is r c.new-number.ensures.place) c.word-2.ensures
