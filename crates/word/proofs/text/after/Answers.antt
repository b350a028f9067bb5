-- `word::text::after` meets its contract.
use Rattle.std.proofs.Common.{subst, sym, ◌∙◌, arith}
use Rattle.word.specs.Ranges.{Behind}
use Rattle.word.proofs.Rows.{no_byte, one_byte}
use Rattle.word.proofs.text.after.Goals as goal

pub returns-in_err-byte : goal.returns-in_err-byte
returns-in_err-byte c =
    let l = c.loop-range in
    let none = no_byte c.args.ranges.now l.range-index c.loop-range-test.true l.left.now c.in_err-byte.ensures.cases in
    subst (Behind c.args.s.now _) (sym c.from_residual.ensures) (l.invariant.0 ∙ none)

pub returns-then-not-contains : goal.returns-then-not-contains
returns-then-not-contains c =
    let l = c.loop-range in
    l.invariant.0
    ∙ one_byte c.args.ranges.now l.range-index c.loop-range-test.true l.left.now _ _ _ c.requires c.in_ok-byte.ensures.cases.0 c.if-not-contains.ensures.value

pub loop-range-preserved : goal.loop-range-preserved
loop-range-preserved c =
    let l = c.loop-range in
    let one = one_byte c.args.ranges.now l.range-index c.loop-range-test.true l.left.now _ _ _ c.requires c.in_ok-byte.ensures.cases.0 c.if-not-contains.ensures.value in
    (l.invariant.0 ∙ one, omega (arith, c.in_ok-byte.ensures.cases.1))
