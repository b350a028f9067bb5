-- The words of a line, and how long it can be.
use Rattle.std.proofs.Common.{Option, None, Some, Bool, true, false, List, [], ◌++◌, append_assoc, ◌≡◌, sym, subst, ℕ, ◌+◌, ◌*◌, ◌≤◌, ◌<◌, arith, ℤ, length, length-append, take, get_or}
use Rattle.model.specs.Lists.{Lists}
use Rattle.model.specs.Lookups.{active_zone, active_offset, usable}
use Rattle.model.specs.Schedule.{decimal, signed_decimal, offset_or_dash, yes_or_no, space, new_line, line}
use Rattle.text.proofs.Digits.{decimal_length, signed_length}
use Rattle.text.specs.declared.Writer.{Writer}
use Rattle.text.specs.Written.{Wrote}
use Rattle.word.proofs.Writes.{all_more}
use Rattle.model.specs.Bytes.{all_bytes}
use Rattle.text.proofs.Runs.{Run, no_word, run_as, more, wrote, wrote_as}

-- ## Lengths

pub offset_length : (o : Option ℤ) → length (offset_or_dash o) ≤ 21
offset_length None = omega arith
offset_length (Some z) = signed_length z

pub yes_length : (b : Bool) → length (yes_or_no b) ≤ 3
yes_length true = omega arith
yes_length false = omega arith

-- a line of these words
abbrev words : ℕ → ℤ → Option ℤ → Bool → List ℕ
words m z o b = [] ++ decimal m ++ space ++ signed_decimal z ++ space ++ offset_or_dash o ++ space ++ yes_or_no b ++ new_line

-- what the words say is what a reader sees, so they are the line
module _ (l : Lists) (m : ℕ) where
  as_line : (z : ℤ) (o : Option ℤ) (b : Bool) → z ≡ (active_zone l m).offset → o ≡ active_offset l m → b ≡ usable l m → words m z o b ≡ line l m
  unfolding line
  as_line z o b e f g = rw (e, f, g) (simp append_assoc)

  pub line_length : length (line l m) ≤ 69
  unfolding line
  line_length =
      let z = (active_zone l m).offset in
      let o = active_offset l m in
      let b = usable l m in
      omega (
        arith,
        decimal_length m,
        signed_length z,
        offset_length o,
        yes_length b,
        length-append (decimal m) (space ++ (signed_decimal z ++ (space ++ (offset_or_dash o ++ (space ++ (yes_or_no b ++ new_line)))))),
        length-append (signed_decimal z) (space ++ (offset_or_dash o ++ (space ++ (yes_or_no b ++ new_line)))),
        length-append (offset_or_dash o) (space ++ (yes_or_no b ++ new_line)),
        length-append (yes_or_no b) new_line,
      )

  -- eight words, each after the one before
  module _ {w w₁ w₂ w₃ w₄ w₅ w₆ w₇ w₈ : Writer} (room : w.at + 69 ≤ length w.out.now) (z : ℤ) (o : Option ℤ) (b : Bool) (e : z ≡ (active_zone l m).offset) (f : o ≡ active_offset l m) (g : b ≡ usable l m) where
    pub line_wrote : Wrote w w₁ (decimal m) → Wrote w₁ w₂ space → Wrote w₂ w₃ (signed_decimal z) → Wrote w₃ w₄ space
        → Wrote w₄ w₅ (offset_or_dash o) → Wrote w₅ w₆ space → Wrote w₆ w₇ (yes_or_no b) → Wrote w₇ w₈ new_line → Wrote w w₈ (line l m)
    line_wrote p₁ p₂ p₃ p₄ p₅ p₆ p₇ p₈ =
        let r₁ = more (no_word (omega arith)) 20 p₁ (decimal_length m) (omega (arith, decimal_length m)) in
        let r₂ = more r₁ 1 p₂ (omega arith) (omega (arith, r₁.within)) in
        let r₃ = more r₂ 21 p₃ (signed_length z) (omega (arith, r₂.within, signed_length z)) in
        let r₄ = more r₃ 1 p₄ (omega arith) (omega (arith, r₃.within)) in
        let r₅ = more r₄ 21 p₅ (offset_length o) (omega (arith, r₄.within, offset_length o)) in
        let r₆ = more r₅ 1 p₆ (omega arith) (omega (arith, r₅.within)) in
        let r₇ = more r₆ 3 p₇ (yes_length b) (omega (arith, r₆.within, yes_length b)) in
        wrote_as (as_line z o b e f g) (wrote (more r₇ 1 p₈ (omega arith) (omega (arith, r₇.within))))

-- ## Lines

module _ (l : Lists) (ms : List ℕ) (w : Writer) where
  -- the lines of the first `i` moments
  abbrev pub Lines : ℕ → Writer → Type 0
  Lines i v = Run w v (all_bytes (line l) (take i ms)) (69 * i)

  pub no_lines : w.at ≤ length w.out.now → Lines 0 w
  unfolding all_bytes
  no_lines h = no_word h

  pub lines_more : {v x : Writer} (i : ℕ) → w.at + 69 * length ms ≤ length w.out.now → i < length ms → Lines i v → Wrote v x (line l (get_or ms i 0)) → Lines (i + 1) x
  lines_more {v} {x} i room h r p =
      let b = line_length l (get_or ms i 0) in
      let e : 69 * i + 69 ≡ 69 * (i + 1) = omega arith in
      let one = run_as (more r 69 p b (omega (arith, r.within, b))) (sym (all_more (line l) ms i 0 h)) in
      subst (λ (k : ℕ). Run w x (all_bytes (line l) (take (i + 1) ms)) k) e one
