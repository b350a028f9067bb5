-- `schedule_text::walked` meets its contract: the header, the lines, and the steps after them.
use Rattle.std.proofs.Common.{◌≡◌, ℕ, suc, ◌-◌, ◌≤◌, List, length, take, replicate, length-take, length-append, ap, ◌∙◌, arith, rules}
use Rattle.std.proofs.Math.ListN.{length-replicate}
use Rattle.model.specs.Bytes.{all_bytes}
use Rattle.model.specs.Walk as W
use Rattle.model.specs.Schedule.{decimal, line}
use Rattle.table.specs.Layout.{lists_in}
use Rattle.lookups.specs.declared.Walk.{Walk}
use Rattle.lookups.specs.Transitions.{walk_owned}
use Rattle.lookups.proofs.Walked.{holds_the_walk}
use Rattle.text.proofs.Runs.{wrote_as}
use Rattle.schedule_text.proofs.Texts.{lines_fit, walk_text_lem, as_text}
use Rattle.schedule_text.proofs.walked.Goals as goal

abbrev moments_of : Walk → List ℕ
moments_of w = take (suc w.steps) w.moments

-- no walk has more than 41 moments
forty_one : (w : W.Walk) → length (walk_owned w).moments ≡ 41
forty_one w =
    let ms = w.moments in
    length-append (take 41 ms) (replicate (41 - length ms) 0) ∙ omega (arith, length-take 41 ms, length-replicate {A = ℕ} (41 - length ms) 0)

few : (s : List ℕ) (start : ℕ) → length (W.walk (lists_in s) start).moments ≤ 41
few s start =
    let w = W.walk (lists_in s) start in
    omega (arith, ap length (holds_the_walk s start), length-take (suc w.steps) (walk_owned w).moments, forty_one w)

-- the moments of a walk by value
moments_are : (s : List ℕ) (start : ℕ) {v : Walk} {ms : List ℕ} → v ≡ walk_owned (W.walk (lists_in s) start) → ms ≡ moments_of v → ms ≡ (W.walk (lists_in s) start).moments
moments_are s start e f = f ∙ ap moments_of e ∙ holds_the_walk s start

pub put_lines-requires : goal.put_lines-requires
put_lines-requires c =
    let a = c.args in
    let m = moments_are a.table.now a.start c.walk-walk.ensures c.walked.ensures in
    lines_fit c.new-out.ensures.place c.new-out.ensures.bytes c.word.ensures (length c.walked.result.now) (omega (arith, ap length m, few a.table.now a.start))

pub returns : goal.returns
returns c =
    let s = c.args.table.now in
    let l = lists_in s in
    let w = W.walk l c.args.start in
    let m = moments_are s c.args.start c.walk-walk.ensures c.walked.ensures in
    let n : c.walk-walk.result.steps ≡ w.steps = ap (λ (v : Walk). v.steps) c.walk-walk.ensures in
    let t = walk_text_lem c.new-out.ensures.place c.new-out.ensures.bytes c.word.ensures l w (few s c.args.start)
    (wrote_as (ap (all_bytes (line l)) m) c.put_lines.ensures) c.word-2.ensures (wrote_as (ap decimal n) c.decimal.ensures) c.word-3.ensures in
    as_text c.word-3.new.self t c.place-length.ensures (search rules)
