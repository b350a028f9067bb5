-- `word::array_at` meets its contract.
use Rattle.std.proofs.Common.{length, drop, sym, ◌∙◌, ◌-◌, arith, take_all, length-drop}
use Rattle.word.proofs.Parts.{part_missing, part_front}
use Rattle.word.proofs.array_at.Goals as goal

pub returns-in_err-get : goal.returns-in_err-get
returns-in_err-get g c =
    c.from_residual.ensures ∙ sym (part_missing g.row.N c.args.s.now c.args.at (omega (arith, c.in_err-get.ensures.lookup)))

pub returns : goal.returns
returns g c =
    let s = c.args.s.now in
    let l = c.in_ok-get.ensures.lookup.0 in
    let e = l.2 ∙ take_all (length s - c.args.at) (drop c.args.at s) (omega (arith, length-drop c.args.at s)) in
    c.copied.ensures ∙ part_front g.row.N s c.args.at c.first_chunk.result c.in_ok-get.field-0.now e l.0 c.first_chunk.ensures.cases
