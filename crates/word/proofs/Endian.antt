-- std's little-endian bytes and signed numbers are the model's.
use Rattle.std.proofs.Common.{List, [], ◌∷◌, ◌≡◌, refl, sym, ap, ◌∙◌, ℕ, zero, suc, ◌+◌, ◌*◌, ◌/◌, ◌%◌, ◌^◌, ℤ, pos, negsuc, length, slice_index, arith, div-one, pow-suc, mul_assoc, mul_comm}
use Rattle.std.proofs.Math.Nat.{div-div-eq-div-mul}
use Rattle.std.specs.Int.{w32, byte_at, byte_worth, bytes_low_first, sum_through, cast_signed, cast_unsigned}
use Rattle.model.specs.Bytes.{bytes, number, signed, bits_of}

-- ## Read

worth : (i b : ℕ) → byte_worth (suc i) b ≡ 256 * byte_worth i b
worth zero b = omega arith
worth (suc i) b =
    ap (λ (p : ℕ). b * p) (pow-suc 256 (suc i)) ∙ sym (mul_assoc b (256 ^ suc i) 256) ∙ mul_comm (b * 256 ^ suc i) 256

-- a sum from its first part on
front : (f : ℕ → ℕ) (k : ℕ) → sum_through f (suc k) ≡ f 0 + sum_through (λ i. f (suc i)) k
front f zero = refl
front f (suc k) = omega (arith, front f k)

scaled : (f g : ℕ → ℕ) → ((i : ℕ) → f i ≡ 256 * g i) → (k : ℕ) → sum_through f k ≡ 256 * sum_through g k
scaled f g h zero = h 0
scaled f g h (suc k) = omega (arith, scaled f g h k, h (suc k))

pub from_le : (k : ℕ) (bs : List ℕ) → length bs ≡ suc k → sum_through (λ i. byte_worth i (slice_index bs i)) k ≡ number bs
unfolding number
from_le k [] h = absurd (omega (arith, h))
from_le zero (b ∷ []) h = omega arith
from_le zero (b ∷ c ∷ bs) h = absurd (omega (arith, h))
from_le (suc k) (b ∷ bs) h =
    front (λ i. byte_worth i (slice_index (b ∷ bs) i)) k
    ∙ ap (λ (n : ℕ). b + n) (scaled (λ i. byte_worth (suc i) (slice_index bs i)) (λ i. byte_worth i (slice_index bs i)) (λ i. worth i (slice_index bs i)) k
    ∙ ap (λ (n : ℕ). 256 * n) (from_le k bs (omega (arith, h))))

-- ## Written

byte_is : (i n : ℕ) → byte_at i n ≡ n / 256 ^ i % 256
byte_is zero n = ap (λ (m : ℕ). m % 256) (sym (div-one n))
byte_is (suc i) n = refl

from_byte : (i k n : ℕ) → bytes_low_first i k n ≡ bytes k (n / 256 ^ i)
unfolding bytes
from_byte i zero n = refl
from_byte i (suc k) n =
    let e : n / 256 ^ suc i ≡ n / 256 ^ i / 256 = ap (λ (p : ℕ). n / p) (pow-suc 256 i) ∙ sym (div-div-eq-div-mul n (256 ^ i) 256) in
    rw (byte_is i n, from_byte (suc i) k n, e)

pub to_le : (k n : ℕ) → bytes_low_first 0 k n ≡ bytes k n
to_le k n = from_byte 0 k n ∙ ap (bytes k) (div-one n)

-- ## Signed

pub to_signed : (n : ℕ) → cast_signed w32 n ≡ signed n
unfolding signed
to_signed n = refl

pub to_bits : (z : ℤ) → cast_unsigned w32 z ≡ bits_of z
unfolding bits_of
to_bits (pos n) = refl
to_bits (negsuc n) = refl
