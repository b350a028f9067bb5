-- The bytes at a place spell the number there, one after another.
use Rattle.std.proofs.Common.{List, [], ◌∷◌, ◌≡◌, refl, sym, ap, ◌∙◌, ℕ, zero, suc, ◌+◌, ◌≤◌, ◌<◌, arith, ltb, ltb-true, ltb-false, le-leb, length, take, drop, get_or, length-take, length-drop, length-take-le, get_or-take, get_or-drop, drop-cons}
use Rattle.std.proofs.Math.ListN.{get_or-eq_default}
use Rattle.model.specs.Bytes.{number, bytes}
use Rattle.model.specs.RoundTrip.{AreBytes}
use Rattle.model.proofs.Facts.{by_test}
use Rattle.model.proofs.Words.{bytes_number}
use Rattle.word.specs.Place.{byte_at, word_at}

-- w bytes of s, from the one i places behind `at` on
abbrev spell : List ℕ → ℕ → ℕ → ℕ → List ℕ
spell s at i zero = []
spell s at i (suc w) = byte_at s (at + i) ∷ spell s at (suc i) w

spelled : (s : List ℕ) (at i w : ℕ) → at + i + w ≤ length s → take w (drop (at + i) s) ≡ spell s at i w
spelled s at i zero h = refl
spelled s at i (suc w) h =
    let e : suc (at + i) ≡ at + suc i = omega arith in
    rw (drop-cons s (at + i) 0 (omega arith), e) (ap (λ (r : List ℕ). byte_at s (at + i) ∷ r) (spelled s at (suc i) w (omega arith)))

-- the first byte, and those behind it
from_first : (s : List ℕ) (at w : ℕ) → at + suc w ≤ length s → take (suc w) (drop at s) ≡ byte_at s at ∷ spell s at 1 w
from_first s at w h =
    let e : suc at ≡ at + 1 = omega arith in
    rw (drop-cons s at 0 (omega arith), e) (ap (λ (r : List ℕ). byte_at s at ∷ r) (spelled s at 1 w (omega arith)))

module _ (s : List ℕ) (at : ℕ) where
  pub two : at + 2 ≤ length s → number (byte_at s at ∷ byte_at s (at + 1) ∷ []) ≡ number (take 2 (drop at s))
  two h = sym (ap number (from_first s at 1 h))

  pub four : at + 4 ≤ length s → number (byte_at s at ∷ byte_at s (at + 1) ∷ byte_at s (at + 2) ∷ byte_at s (at + 3) ∷ []) ≡ number (take 4 (drop at s))
  four h = sym (ap number (from_first s at 3 h))

  pub eight : at + 8 ≤ length s
      → number (byte_at s at ∷ byte_at s (at + 1) ∷ byte_at s (at + 2) ∷ byte_at s (at + 3) ∷ byte_at s (at + 4) ∷ byte_at s (at + 5) ∷ byte_at s (at + 6) ∷ byte_at s (at + 7) ∷ [])
      ≡ number (take 8 (drop at s))
  eight h = sym (ap number (from_first s at 7 h))

  -- a number that stands there
  pub word_there : (w : ℕ) → at + w ≤ length s → word_at w s at ≡ number (take w (drop at s))
  unfolding word_at
  word_there w h = rw (le-leb (at + w) (length s) h)

-- ## What a part of some bytes spells is written as that part

pub part_below : (s : List ℕ) (at w : ℕ) → ((i : ℕ) → get_or s i 0 < 256) → (j : ℕ) → get_or (take w (drop at s)) j 0 < 256
part_below s at w b j =
    by_test (ltb j w)
    (λ t. omega (arith, b (at + j), get_or-take w (drop at s) j 0 (ltb-true j w t), get_or-drop at s j 0))
    (λ t. omega (arith, get_or-eq_default (take w (drop at s)) 0 {n = j} (omega (arith, ltb-false j w t, length-take w (drop at s)))))

are_bytes : (xs : List ℕ) → ((j : ℕ) → get_or xs j 0 < 256) → AreBytes xs
are_bytes [] b = tt
are_bytes (x ∷ xs) b = (b 0, are_bytes xs (λ j. b (suc j)))

pub written_back : (s : List ℕ) (at w : ℕ) → at + w ≤ length s → ((i : ℕ) → get_or s i 0 < 256) → bytes w (number (take w (drop at s))) ≡ take w (drop at s)
written_back s at w h b =
    let xs = take w (drop at s) in
    let n : length xs ≡ w = length-take-le w (drop at s) (omega (arith, length-drop at s)) in
    ap (λ (k : ℕ). bytes k (number xs)) (sym n) ∙ bytes_number xs (are_bytes xs (part_below s at w b))
