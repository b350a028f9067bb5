-- The first i words are written.
use Rattle.std.proofs.Common.{◌≡◌, ◌*◌, List, ℕ, take}
use Rattle.model.specs.Bytes.{all_bytes}
use Rattle.word.proofs.put_words.Given as goal

abbrev pub invariant-loop-i : goal.invariant-loop-i
invariant-loop-i l = take (8 * l.i) l.out ≡ all_bytes (λ (w : List ℕ). w) (take l.i l.words)
