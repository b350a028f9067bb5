-- `readings::clock::local` meets its contract.
use Rattle.std.proofs.Common.{◌≡◌, true, rules, sym, ◌∙◌}
use Rattle.model.specs.Clock as C
use Rattle.rtc.specs.Meaning.{reading_of}
use Rattle.image.specs.Layout.{is_image}
use Rattle.image.specs.Parts.{clock_in}
use Rattle.readings.specs.There.{told}
use Rattle.readings.proofs.Answered.{local_time_is, told_local}
use Rattle.readings.proofs.clock.local.Goals as goal

pub returns : goal.returns
returns c =
    let a = c.args in
    let i : is_image a.image.now ≡ true = search rules in
    let q : reading_of c.utc_time-reading.result ≡ C.reading (clock_in a.image.now) a.tick = search rules in
    sym (local_time_is a.image.now a.tick _ _ _ (told c.local_time.result) i c.lists.ensures c.ok.ensures.value q (sym (told_local c.local_time.result) ∙ c.local_time.ensures))
