-- `schedule_text::refused` meets its contract.
use Rattle.std.proofs.Common.{arith, rules}
use Rattle.model.specs.Schedule.{refused7}
use Rattle.schedule_text.proofs.Texts.{word_text, as_text}
use Rattle.schedule_text.proofs.refused.Goals as goal

pub returns : goal.returns
returns c =
    let t = word_text refused7 c.word.ensures (omega arith) c.new-out.ensures.place c.new-out.ensures.bytes in
    as_text c.word.new.self t c.place-length.ensures (search rules)
