-- `replayed` meets its contract.
use Rattle.std.proofs.Common.{ℕ, List, replicate, refl, sym, ap, ◌∙◌, arith, length}
use Rattle.std.proofs.lemmas.Result.{err_from_is_err_and}
use Rattle.model.specs.Answers.{Answer}
use Rattle.model.specs.Output.{leaves_copy}
use Rattle.model.specs.Rules.{Rules}
use Rattle.history.proofs.Reading.{is_history_lem}
use Rattle.table.specs.Layout.{store_in}
use Rattle.table.proofs.Requests.{are_bytes}
use Rattle.replay.specs.Replays.{Replayed, name_told, moments_told}
use Rattle.replay.specs.Tables.{table_through, by_value}
use Rattle.replay.proofs.Follows.{run_follows}
use Rattle.replay.proofs.Claimed.{limits_good, limits_bad, table_made, replayed_bad, replayed_unreadable, replayed_run}
use Rattle.replay.proofs.replayed.Goals as goal

pub returns-in_err-new : goal.returns-in_err-new
returns-in_err-new c =
    let a = c.args in
    let r : Rules = record { zone_limit = a.zone_limit; window_limit = a.window_limit } in
    let bad = limits_bad (replicate 1040 0) r (omega arith) c.new.result c.new.ensures.0 _ c.in_err-new.was in
    let p = err_from_is_err_and c.from_residual.result c.from_residual.ensures.1 in
    let e = p.1 in
    let f = p.2 in
    let g = bad.1 in
    rw (replayed_bad r a.history.now a.start a.at (length a.moments.now) (length a.name.now) (length a.out.now) bad.0)
    (record { value = (cc); walked = refl; named = refl; stored = refl })

pub returns-then-not-is_history : goal.returns-then-not-is_history
returns-then-not-is_history c =
    let a = c.args in
    let r : Rules = record { zone_limit = a.zone_limit; window_limit = a.window_limit } in
    let good = limits_good (replicate 1040 0) r (omega arith) c.new.result c.new.ensures.0 c.in_ok-new.was in
    rw (replayed_unreadable r a.history.now a.start a.at (length a.moments.now) (length a.name.now) (length a.out.now) good (sym c.is_history.ensures ∙ c.if-not-is_history.true))
    (record { value = refl; walked = refl; named = refl; stored = refl })

pub returns : goal.returns
returns c =
    let a = c.args in
    let r : Rules = record { zone_limit = a.zone_limit; window_limit = a.window_limit } in
    let good = limits_good (replicate 1040 0) r (omega arith) c.new.result c.new.ensures.0 c.in_ok-new.was in
    let h = is_history_lem a.history.now (sym c.is_history.ensures ∙ c.if-not-is_history.false) in
    let made = table_made (replicate 1040 0) r (omega arith) c.new.result c.new.ensures.0 c.new.new.table good c.new.ensures.1 in
    let store =
    ap store_in (c.through.ensures h.calls h.read ∙ ap (λ (t : List ℕ). table_through t h.calls) made)
    ∙ run_follows (replicate 1040 0) r a.history.now h.calls (omega arith) good (are_bytes a.history.now (λ i. (c.type_inv.history i).fits)) h.read in
    let e = sym (replayed_run r a.history.now a.start a.at (length a.moments.now) (length a.name.now) (length a.out.now) good h.calls h.read c.through.new.table store) in
    record {
      value = c.answered.ensures.value ∙ ap by_value e;
      walked = c.answered.ensures.walked ∙ ap (λ (x : Answer Replayed). leaves_copy x moments_told a.moments.now) e;
      named = c.answered.ensures.named ∙ ap (λ (x : Answer Replayed). leaves_copy x name_told a.name.now) e;
      stored = c.answered.ensures.stored ∙ ap (λ (x : Answer Replayed). leaves_copy x (λ p. p.stored) a.out.now) e;
    }
