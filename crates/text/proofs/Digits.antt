-- Decimal digits: as many as the number needs, at most 20, and a sign before them.
use Rattle.std.proofs.Common.{ℤ, pos, negsuc, List, [], ◌∷◌, ◌++◌, ◌≡◌, refl, sym, ap, subst, ◌∙◌, ℕ, zero, suc, ◌+◌, ◌/◌, ◌%◌, ◌^◌, ◌≤◌, ◌<◌, div-lt_iff_lt-mul, zero-lt-suc, pow-suc, arith, ltb, length, length-append, ltb-true, ltb-false, lt-ltb, le-ltb}
use Rattle.model.specs.Schedule.{digits, decimal, signed_decimal}
use Rattle.model.proofs.Facts.{by_test}

-- the last digit
abbrev pub digit : ℕ → List ℕ
digit n = (48 + n % 10) ∷ []

-- a number of one digit
digits_one : (m n : ℕ) → n < 10 → digits (suc m) n ≡ (48 + n) ∷ []
unfolding digits
digits_one m n h = rw (lt-ltb n 10 h)

-- a larger number: its front digits, and its last
digits_more : (m n : ℕ) → 10 ≤ n → digits (suc m) n ≡ digits m (n / 10) ++ digit n
unfolding digits
digits_more m n h = rw (le-ltb n 10 h)

-- one place fewer is enough
enough : (m n : ℕ) → n < 10 ^ suc m → digits (suc (suc m)) n ≡ digits (suc m) n
enough zero n h = let e : n < 10 = subst (λ (k : ℕ). n < k) refl h in digits_one 1 n e ∙ sym (digits_one 0 n e)
enough (suc m) n h =
    by_test (ltb n 10)
    (λ t. let e = ltb-true n 10 t in digits_one (suc (suc m)) n e ∙ sym (digits_one (suc m) n e))
    (λ t. let e = ltb-false n 10 t in
    let d : n / 10 < 10 ^ suc m = (div-lt_iff_lt-mul (zero-lt-suc 9)).1 (subst (λ (k : ℕ). n < k) (pow-suc 10 (suc m)) h) in
    digits_more (suc (suc m)) n e ∙ ap (λ (l : List ℕ). l ++ digit n) (enough m (n / 10) d) ∙ sym (digits_more (suc m) n e))

pub decimal_one : (n : ℕ) → n < 10 → decimal n ≡ (48 + n) ∷ []
unfolding decimal
decimal_one n h = digits_one 19 n h

pub decimal_more : (n : ℕ) → 10 ≤ n → n < 18446744073709551616 → decimal n ≡ decimal (n / 10) ++ digit n
unfolding decimal
decimal_more n h b = digits_more 19 n h ∙ ap (λ (l : List ℕ). l ++ digit n) (sym (enough 18 (n / 10) (omega arith)))

digits_length : (m n : ℕ) → length (digits m n) ≤ m
unfolding digits
digits_length zero n = omega arith
digits_length (suc m) n =
    by_test (ltb n 10) (λ t. rw t (omega arith))
    (λ t. rw t (omega (arith, length-append (digits m (n / 10)) (digit n), digits_length m (n / 10))))

pub decimal_length : (n : ℕ) → length (decimal n) ≤ 20
unfolding decimal
decimal_length n = digits_length 20 n

-- with a sign
pub signed_length : (z : ℤ) → length (signed_decimal z) ≤ 21
signed_length (pos n) = omega (arith, decimal_length n)
signed_length (negsuc n) = omega (arith, decimal_length (suc n))
