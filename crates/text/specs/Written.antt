-- The place after bytes, and what a writer leaves.
use Rattle.std.specs.Prelude.{◌≡◌, cond, List, ℕ, ◌+◌, length}
use Rattle.word.specs.Place.{fits_at, placed}
use Rattle.text.specs.declared.Writer.{Writer}

-- the place after the bytes bs at `at`, where they fit in s; else `at`
unfoldable pub after : List ℕ → ℕ → List ℕ → ℕ
after s at bs = cond (fits_at s at (length bs)) (at + length bs) at

-- v is w after it wrote bs: into the same bytes, at its place, which is after them, where they fit
pub record Wrote (w v : Writer) (bs : List ℕ) : Type 0 where
  pub same_reference : v.out.ghost_name ≡ w.out.ghost_name
  pub bytes : v.out.now ≡ placed w.out.now w.at bs
  pub place : v.at ≡ after w.out.now w.at bs
