-- The codes of effects in one 64-bit number.
use Rattle.std.specs.Prelude.{Bool, cond, List, ℕ, ◌*◌, ◌%◌, ◌^◌, fold, reverse, bit_or}

-- a byte before the bytes of a number, the first lowest; 64 bits hold eight
abbrev pub byte_before : ℕ → ℕ → ℕ
byte_before first rest = bit_or (rest * 256 % 2 ^ 64) first

-- the codes that are due, a byte each
abbrev pub codes_due : List (Bool × ℕ) → ℕ
codes_due effects = fold (λ rest e. cond e.0 (byte_before e.1 rest) rest) 0 (reverse effects)
