-- `schedule_text::schedule` meets its contract.
use Rattle.std.proofs.Common.{List, ◌≡◌, ap, ◌∙◌, ℕ, ◌+◌, ◌-◌, ◌≤◌, ◌<◌, arith, length, drop, get_or, get_or-drop, length-append, length-take-le, replicate}
use Rattle.model.specs.Bytes.{number}
use Rattle.model.specs.RoundTrip.{AreBytes}
use Rattle.model.specs.Schedule.{refused7}
use Rattle.word.proofs.Endian.{from_le}
use Rattle.table.proofs.Requests.{are_bytes}
use Rattle.schedule_text.specs.declared.Text.{Text}
use Rattle.schedule_text.specs.Texts.{text_of}
use Rattle.schedule_text.proofs.Inputs.{too_short_lem, too_long, bad_record, good_record}
use Rattle.schedule_text.proofs.schedule.Goals as goal

-- the bytes after the moment
rest_bytes : (s t : List ℕ) → t ≡ drop 8 s → ((i : ℕ) → get_or s i 0 < 256) → AreBytes t
rest_bytes s t e f = rw e (are_bytes (drop 8 s) (λ i. rw get_or-drop (f (8 + i))))

-- a text lies in its bytes
text_fits : (t : Text) (l : List ℕ) → t ≡ text_of l → t.length ≤ length t.bytes
unfolding text_of
text_fits t l e = omega (arith, ap (λ (x : Text). x.length) e, ap (λ (x : Text). length x.bytes) e, length-append l (replicate (2879 - length l) 0))

pub returns-then-input-gt-MOST_INPUT : goal.returns-then-input-gt-MOST_INPUT
returns-then-input-gt-MOST_INPUT c =
    record { says = c.refused.ensures ∙ ap text_of (too_long c.args.input.now c.if-input-gt-MOST_INPUT.true); fits = text_fits _ refused7 c.refused.ensures }

pub returns-in_default : goal.returns-in_default
returns-in_default c =
    record { says = c.refused-in_default.ensures ∙ ap text_of (too_short_lem c.args.input.now c.in_default.ensures.cases); fits = text_fits _ refused7 c.refused-in_default.ensures }

pub returns-in-Err : goal.returns-in-Err
returns-in-Err c =
    let s = c.args.input.now in
    let cut = c.in-Some.ensures.cases in
    let said = bad_record s (omega (arith, cut.2)) (omega (arith, c.if-input-gt-MOST_INPUT.false)) c.new.new.table c.new.ensures.1 c.in-Some.record.now cut.1 c.load.result c.load.ensures.0 c.in-Err.field-0 c.in-Err.is in
    record { says = c.refused-in-Err.ensures ∙ ap text_of said; fits = text_fits _ refused7 c.refused-in-Err.ensures }

pub returns-in-Ok : goal.returns-in-Ok
returns-in-Ok c =
    let s = c.args.input.now in
    let cut = c.in-Some.ensures.cases in
    let long = length-take-le 8 s (omega (arith, cut.2)) in
    let moment = c.from_le_bytes.ensures ∙ from_le 7 c.in-Some.moment.now (ap length cut.0 ∙ long) ∙ ap number cut.0 in
    let said = good_record s (omega (arith, cut.2)) (omega (arith, c.if-input-gt-MOST_INPUT.false)) c.new.new.table c.new.ensures.1 c.in-Some.record.now cut.1 c.load.result c.load.ensures.0
    c.in-Ok.is (rest_bytes s _ cut.1 (λ i. (c.type_inv.input i).fits)) c.load.new.table c.load.ensures.1 _ moment in
    record { says = c.walked.ensures ∙ ap text_of said; fits = text_fits _ _ c.walked.ensures }
