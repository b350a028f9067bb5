-- `readings::transitions::walked` meets its contract.
use Rattle.std.proofs.Common.{rules, refl, sym, ap, ◌∙◌}
use Rattle.model.specs.Answers.{answers}
use Rattle.word.proofs.Writes.{all_placed}
use Rattle.readings.proofs.Answered.{walk_is, walk_answers}
use Rattle.readings.proofs.Copies.{walk_roomy, walk_short, walk_placed, walk_steps}
use Rattle.readings.proofs.transitions.walked.Goals as goal

pub returns-in_err-table : goal.returns-in_err-table
returns-in_err-table c = rw (walk_is c.args.image.now c.args.start) (search rules)

pub returns-then-put_u64s : goal.returns-then-put_u64s
returns-then-put_u64s c =
    let a = c.args in
    let t = c.in_ok-table.table.now in
    let w = c.walk-walk.result in
    let ms = c.walked-walked.result.now in
    let told = all_placed a.moments.now ms c.put_u64s.ensures.fits c.put_u64s.ensures.written in
    let b = walk_roomy t a.start w ms c.walk-walk.ensures c.walked-walked.ensures a.moments.now (sym told.0 ∙ c.if-put_u64s.true) in
    rw (walk_answers a.image.now t (search rules) a.start, b)
    (ap answers (walk_steps t a.start w ms c.walk-walk.ensures c.walked-walked.ensures), told.1 ∙ walk_placed t a.start w ms c.walk-walk.ensures c.walked-walked.ensures a.moments.now ∙ rw b refl)

pub returns-else-put_u64s : goal.returns-else-put_u64s
returns-else-put_u64s c =
    let a = c.args in
    let t = c.in_ok-table.table.now in
    let w = c.walk-walk.result in
    let ms = c.walked-walked.result.now in
    let told = all_placed a.moments.now ms c.put_u64s.ensures.fits c.put_u64s.ensures.written in
    let b = walk_short t a.start w ms c.walk-walk.ensures c.walked-walked.ensures a.moments.now (sym told.0 ∙ c.if-put_u64s.false) in
    rw (walk_answers a.image.now t (search rules) a.start, b)
    (refl, told.1 ∙ walk_placed t a.start w ms c.walk-walk.ensures c.walked-walked.ensures a.moments.now ∙ rw b refl)
