-- `schedule_text::lines::put_lines` meets its contract: the lines of the moments so far are written.
use Rattle.std.proofs.Common.{ap, arith, take_all}
use Rattle.model.specs.Bytes.{all_bytes}
use Rattle.model.specs.Schedule.{line}
use Rattle.table.specs.Layout.{lists_in}
use Rattle.text.proofs.Runs.{same_length, wrote, wrote_as}
use Rattle.schedule_text.proofs.Words.{no_lines, lines_more}
use Rattle.schedule_text.proofs.lines.put_lines.Goals as goal

pub loop-moment-init : goal.loop-moment-init
loop-moment-init c = no_lines (lists_in c.args.table.now) c.args.moments.now c.args.out.now (omega arith)

pub put_line-requires : goal.put_line-requires
put_line-requires c = let r = c.loop-moment.invariant in omega (arith, r.place, r.within, same_length r, c.requires)

pub loop-moment-preserved : goal.loop-moment-preserved
loop-moment-preserved c = lines_more (lists_in c.args.table.now) c.args.moments.now c.args.out.now c.loop-moment.moment-index c.requires (omega arith) c.loop-moment.invariant c.put_line.ensures

pub returns : goal.returns
returns c =
    let ms = c.args.moments.now in
    let e = take_all c.loop-moment.moment-index ms (omega arith) in
    wrote_as (ap (all_bytes (line (lists_in c.args.table.now))) e) (wrote c.loop-moment.invariant)
