-- `layout::put_new` meets its contract: the limits are written, and behind them zeros.
use Rattle.std.proofs.Common.{◌≡◌, ℕ, [], ◌∷◌, length, take, drop, replicate, set, sym, ap, ◌∙◌, arith, length-drop, length-take-le, length-set}
use Rattle.std.proofs.lemmas.List.{length-replicate}
use Rattle.std.proofs.lemmas.List.Edits.{sets, sets-eq}
use Rattle.model.specs.Rules.{Rules}
use Rattle.word.specs.Place.{placed}
use Rattle.word.proofs.Frame.{placed_part, placed_else}
use Rattle.word.proofs.Places.{placed_there}
use Rattle.word.proofs.Writes.{Wrote, wrote_placed}
use Rattle.table.specs.Layout.{new_bytes, new_table}
use Rattle.table.specs.Limits.{rules_of}
use Rattle.table.proofs.Made.{length_new}
use Rattle.table.proofs.layout.put_new.Goals as goal

pub returns-then-table-ge-SIZE : goal.returns-then-table-ge-SIZE
unfolding new_table new_bytes
returns-then-table-ge-SIZE c =
    let a = c.args in
    let s = a.table.now in
    let r : Rules = rules_of a.limits in
    let limits = r.zone_limit ∷ r.window_limit ∷ [] in
    let t = sets s 0 limits in
    let w : Wrote s 0 limits t = record { room = omega arith; is = sets-eq limits s 0 (omega arith) } in
    let l : length t ≡ length s = length-set (set s 0 r.zone_limit) 1 r.window_limit ∙ length-set s 0 r.zone_limit in
    let k : length (take 1038 (drop 2 t)) ≡ 1038 = length-take-le 1038 (drop 2 t) (omega (arith, l, length-drop 2 t)) in
    let z = c.fill.ensures.after (λ y h. h) ∙ ap (λ (n : ℕ). replicate n 0) k in
    let n = length-replicate {A = ℕ} 1038 0 in
    let q = placed_part t 2 1038 c.fill.new.self (ap length z ∙ n) (omega (arith, l)) ∙ ap (placed t 2) z in
    (wrote_placed w (replicate 1038 0) 2 _ (omega arith) (omega (arith, n)) q).is ∙ sym (placed_there s 0 (new_bytes r) (omega (arith, length_new r)))

pub returns-else-table-ge-SIZE : goal.returns-else-table-ge-SIZE
unfolding new_table
returns-else-table-ge-SIZE c =
    let a = c.args in
    let r = rules_of a.limits in sym (placed_else a.table.now 0 (new_bytes r) (omega (arith, length_new r)))
