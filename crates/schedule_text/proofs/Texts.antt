-- Texts written over zeros, and what is printed of a record that was read.
use Rattle.std.proofs.Common.{List, ◌++◌, append_assoc, ◌≡◌, refl, ap, ◌∙◌, ℕ, ◌+◌, ◌-◌, ◌*◌, ◌≤◌, arith, length, drop, replicate}
use Rattle.std.proofs.Math.ListN.{length-replicate}
use Rattle.model.specs.Lists.{Lists}
use Rattle.model.specs.Bytes.{all_bytes}
use Rattle.model.specs.Walk.{Walk}
use Rattle.model.specs.Schedule.{header, steps_word, new_line, decimal, line, walk_text}
use Rattle.word.specs.Place.{put}
use Rattle.std.proofs.lemmas.List.{drop-replicate}
use Rattle.word.proofs.Writes.{all_short}
use Rattle.text.proofs.Digits.{decimal_length}
use Rattle.text.specs.declared.Writer.{Writer}
use Rattle.text.specs.Written.{Wrote}
use Rattle.text.proofs.Runs.{Run, no_word, more, same_length}
use Rattle.schedule_text.specs.declared.Text.{Text}
use Rattle.schedule_text.specs.Texts.{text_of}
use Rattle.schedule_text.proofs.Words.{line_length}

-- words over zeros from the front on are a text
pub text_is : {w v : Writer} {xs : List ℕ} {most : ℕ} → Run w v xs most → w.at ≡ 0 → w.out.now ≡ replicate 2879 0 → record { bytes = v.out.now; length = v.at } ≡ text_of xs
unfolding text_of
text_is {w} {v} {xs} c z e =
    let n : v.at ≡ length xs = omega (arith, c.place) in
    let k : 0 + length xs ≡ length xs = omega arith in
    let is : v.out.now ≡ xs ++ replicate (2879 - length xs) 0
    = c.bytes ∙ ap (λ (i : ℕ). put w.out.now i xs) z ∙ ap (λ (s : List ℕ). put s 0 xs) e
    ∙ ap (λ (i : ℕ). xs ++ drop i (replicate 2879 0)) k ∙ ap (λ (l : List ℕ). xs ++ l) (drop-replicate (length xs) 2879 0) in
    rw (is, n) refl

-- a text by value, from its bytes after the writer is let go
pub as_text : (v : Writer) {t : Text} {b : List ℕ} {n : ℕ} → record { bytes = v.out.now; length = v.at } ≡ t → n ≡ v.at → b ≡ v.out.now → record { bytes = b; length = n } ≡ t
as_text v p q r = rw (q, r) p

-- a text of one word
pub word_text : {w v : Writer} (ws : List ℕ) → Wrote w v ws → length ws ≤ 2879 → w.at ≡ 0 → w.out.now ≡ replicate 2879 0 → record { bytes = v.out.now; length = v.at } ≡ text_of ws
word_text ws p h z e = let s = length-replicate {A = ℕ} 2879 0 in let k = ap length e in text_is (more (no_word (omega arith)) 2879 p h (omega arith)) z e

-- the header, the lines of a walk after it, and the steps after them
module _ {w w₁ : Writer} (z : w.at ≡ 0) (e : w.out.now ≡ replicate 2879 0) (p₁ : Wrote w w₁ header) where
  long : length w.out.now ≡ 2879
  long = ap length e ∙ length-replicate {A = ℕ} 2879 0

  header_run : Run w w₁ header 23
  header_run = more (no_word (omega arith)) 23 p₁ (omega arith) (omega (arith, long))

  pub lines_fit : (n : ℕ) → n ≤ 41 → w₁.at + 69 * n ≤ length w₁.out.now
  lines_fit n h = omega (arith, header_run.place, same_length header_run, long)

  pub walk_text_lem : {w₂ w₃ w₄ w₅ : Writer} (l : Lists) (k : Walk) → length k.moments ≤ 41 → Wrote w₁ w₂ (all_bytes (line l) k.moments) → Wrote w₂ w₃ steps_word → Wrote w₃ w₄ (decimal k.steps) → Wrote w₄ w₅ new_line
      → record { bytes = w₅.out.now; length = w₅.at } ≡ text_of (walk_text l k)
  walk_text_lem l k few p₂ p₃ p₄ p₅ =
      let short : length (all_bytes (line l) k.moments) ≤ 2829 = omega (arith, all_short (line l) 69 (line_length l) k.moments) in
      let r₂ = more header_run 2829 p₂ short (omega (arith, short, long)) in
      let r₃ = more r₂ 6 p₃ (omega arith) (omega (arith, r₂.within, long)) in
      let r₄ = more r₃ 20 p₄ (decimal_length k.steps) (omega (arith, r₃.within, decimal_length k.steps, long)) in
      let r₅ = more r₄ 1 p₅ (omega arith) (omega (arith, r₄.within, long)) in
      text_is r₅ z e ∙ ap text_of (simp append_assoc)
