-- `schedule_text::lines::put_line` meets its contract: four words, with a space after each but the last, and a line feed after that.
use Rattle.std.proofs.Common.{◌≡◌, ap, w32, rules, to_z, of_z}
use Rattle.model.specs.Schedule.{signed_decimal}
use Rattle.table.specs.Layout.{lists_in}
use Rattle.text.proofs.Runs.{wrote_as}
use Rattle.schedule_text.proofs.Words.{line_wrote}
use Rattle.schedule_text.proofs.lines.put_line.Goals as goal

pub returns : goal.returns
returns c =
    let a = c.args in
    let z = c.zone_offset in
    let o = c.active_dst_offset in
    let y = c.dst_usable in
    let back : to_z w32 (of_z w32 z.result) ≡ z.result = search rules in
    line_wrote (lists_in a.table.now) a.moment c.requires z.result o.result y.result z.ensures o.ensures y.ensures
    c.decimal.ensures c.word.ensures (wrote_as (ap signed_decimal back) c.signed.ensures) c.word-2.ensures
    c.put_offset.ensures c.word-3.ensures c.put_yes_or_no.ensures c.word-4.ensures
