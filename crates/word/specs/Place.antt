-- What stands at a place of some bytes, and what they are after a number is written there.
use Rattle.std.specs.Prelude.{Bool, false, ◌&&◌, cond, List, ◌++◌, ℕ, ◌+◌, ◌*◌, leb, ℤ, length, take, drop, get_or, Option, None, Some, option_map}
use Rattle.model.specs.Bytes.{number, bytes, all_bytes, signed, well_formed}

-- n bytes stand at `at`
abbrev pub fits_at : List ℕ → ℕ → ℕ → Bool
fits_at s at n = leb (at + n) (length s)

-- the n bytes at `at`; none where one is missing
unfoldable pub part_at : ℕ → List ℕ → ℕ → Option (List ℕ)
part_at n s at = cond (fits_at s at n) (Some (take n (drop at s))) None

-- the number of w bytes at `at`; none where a byte is missing
unfoldable pub number_at : ℕ → List ℕ → ℕ → Option ℕ
number_at w s at = cond (fits_at s at w) (Some (number (take w (drop at s)))) None

-- the offset at `at`
abbrev pub signed_at : List ℕ → ℕ → Option ℤ
signed_at s at = option_map signed (number_at 4 s at)

-- s with the bytes bs from `at` on
abbrev pub put : List ℕ → ℕ → List ℕ → List ℕ
put s at bs = take at s ++ bs ++ drop (at + length bs) s

-- the same where they fit, else s as it was
unfoldable pub placed : List ℕ → ℕ → List ℕ → List ℕ
placed s at bs = cond (fits_at s at (length bs)) (put s at bs) s

-- s with the n bytes of t from `from` on copied to `at`, where both have so many; else s as it was
unfoldable pub copied : List ℕ → ℕ → List ℕ → ℕ → ℕ → List ℕ
copied s at t from n = cond (fits_at t from n && fits_at s at n) (put s at (take n (drop from t))) s

-- s with the first n numbers at its front, 8 bytes each, where there are so many and all have room; else s as it was
unfoldable pub with_numbers : List ℕ → List ℕ → ℕ → List ℕ
with_numbers s ns n = cond (leb n (length ns) && leb (8 * n) (length s)) (put s 0 (all_bytes (λ m. bytes 8 m) (take n ns))) s

-- the byte at `at`; 0 where there is none
abbrev pub byte_at : List ℕ → ℕ → ℕ
byte_at s at = get_or s at 0

-- the number of w bytes at `at`; 0 where a byte is missing
unfoldable pub word_at : ℕ → List ℕ → ℕ → ℕ
word_at w s at = cond (fits_at s at w) (number (take w (drop at s))) 0

-- n bytes stand at `at` and are well-formed UTF-8
unfoldable pub text_at : List ℕ → ℕ → ℕ → Bool
text_at s at n = cond (fits_at s at n) (well_formed (take n (drop at s))) false
