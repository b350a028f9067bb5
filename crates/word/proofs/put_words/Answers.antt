-- `word::put_words` meets its contract.
use Rattle.std.proofs.Common.{refl, [], ℕ, ◌+◌, ◌*◌, List, ◌++◌, length, take, arith, ap, sym, ◌∙◌}
use Rattle.std.proofs.lemmas.Slice.{take-put_mid}
use Rattle.model.specs.Bytes.{all_bytes}
use Rattle.word.proofs.Writes.{all_more}
use Rattle.word.proofs.put_words.Goals as goal

pub loop-i-init : goal.loop-i-init
unfolding all_bytes
loop-i-init c = refl

pub loop-i-preserved : goal.loop-i-preserved
loop-i-preserved c =
    let i = c.loop-i.i in
    let long = c.told-words i c.loop-i-test.true in
    let after = c.copy_from_slice.ensures.after in
    take-put_mid (8 * i) _ c.loop-i.out _ (8 * (i + 1)) (omega (arith, long, ap length after)) (omega arith)
    ∙ ap (λ (l : List ℕ). l ++ c.copy_from_slice.new.self) c.loop-i.invariant
    ∙ ap (λ (l : List ℕ). all_bytes (λ (w : List ℕ). w) (take i c.args.words.now) ++ l) after
    ∙ sym (all_more (λ (w : List ℕ). w) c.args.words.now i [] c.loop-i-test.true)
