-- The parts of an image that lie outside the bytes that are written.
use Rattle.std.proofs.Common.{true, List, ◌≡◌, ℕ, ◌+◌, ◌≤◌, ◌<◌, arith, leb, le-leb, leb-true, eqb-true, length, take, drop}
use Rattle.model.proofs.Facts.{and_both}
use Rattle.word.specs.Place.{placed, byte_at, word_at}
use Rattle.table.specs.Layout.{table_size}
use Rattle.image.specs.Layout.{image_size, magic, magic_place, store_place, clock_place, table_place, is_image, table_in}
use Rattle.image.specs.Parts.{clock_at, timer_at, client_at, has_lists}
use Rattle.word.proofs.Frame as frame

-- ## What an image is

pub record Image (s : List ℕ) : Type 0 where
  pub size : image_size ≤ length s
  pub marked : word_at 4 s magic_place ≡ magic

pub image_is : (s : List ℕ) → is_image s ≡ true → Image s
unfolding is_image
image_is s h =
    let p = and_both (leb image_size (length s)) _ h in
    record { size = leb-true image_size (length s) p.0; marked = eqb-true (word_at 4 s magic_place) magic p.1 }

pub is_image_lem : (s : List ℕ) → Image s → is_image s ≡ true
unfolding is_image
is_image_lem s i = rw (le-leb image_size (length s) i.size, i.marked)

-- ## Places from `lo` on and before `hi`, where n bytes are written at `at`

pub data Apart (at n lo hi : ℕ) : Type 0 where
  before : hi ≤ at → Apart at n lo hi
  after : at + n ≤ lo → Apart at n lo hi

module _ (s : List ℕ) (at : ℕ) (bs : List ℕ) {n : ℕ} (l : length bs ≡ n) where
  pub byte_apart : {lo hi : ℕ} → Apart at n lo hi → (i : ℕ) → lo ≤ i → i < hi → byte_at (placed s at bs) i ≡ byte_at s i
  byte_apart (before q) i a b = frame.byte_before s at bs i (omega arith)
  byte_apart (after q) i a b = frame.byte_after s at bs i (omega arith)

  pub word_apart : {lo hi : ℕ} → Apart at n lo hi → (w i : ℕ) → lo ≤ i → i + w ≤ hi → word_at w (placed s at bs) i ≡ word_at w s i
  word_apart (before q) w i a b = frame.word_before s at bs w i (omega arith)
  word_apart (after q) w i a b = frame.word_after s at bs w i (omega arith)

  pub part_apart : {lo hi : ℕ} → Apart at n lo hi → (m i : ℕ) → lo ≤ i → i + m ≤ hi → take m (drop i (placed s at bs)) ≡ take m (drop i s)
  part_apart (before q) m i a b = frame.part_before s at bs m i (omega arith)
  part_apart (after q) m i a b = frame.part_after s at bs m i (omega arith)

  -- ## A part at the place p

  module _ (p size : ℕ) (a : Apart at n p (p + size)) where
    byte : (k : ℕ) → k < size → byte_at (placed s at bs) (p + k) ≡ byte_at s (p + k)
    byte k h = byte_apart a (p + k) (omega arith) (omega arith)

    word : (w k : ℕ) → k + w ≤ size → word_at w (placed s at bs) (p + k) ≡ word_at w s (p + k)
    word w k h = word_apart a w (p + k) (omega arith) (omega arith)

  pub clock_apart : (p : ℕ) → Apart at n p (p + 40) → clock_at (placed s at bs) p ≡ clock_at s p
  clock_apart p a =
      let b : (k : ℕ) → k < 40 → byte_at (placed s at bs) (p + k) ≡ byte_at s (p + k) = byte p 40 a in
      let w : (n k : ℕ) → k + n ≤ 40 → word_at n (placed s at bs) (p + k) ≡ word_at n s (p + k) = word p 40 a in
      let g : byte_at (placed s at bs) p ≡ byte_at s p = byte_apart a p (omega arith) (omega arith) in
      rw (g, b 1 (omega arith), b 2 (omega arith), b 3 (omega arith), b 4 (omega arith), w 2 6 (omega arith), w 8 8 (omega arith))
      (rw (w 8 16 (omega arith), w 8 24 (omega arith), w 8 32 (omega arith)))

  pub timer_apart : (p : ℕ) → Apart at n p (p + 8) → timer_at (placed s at bs) p ≡ timer_at s p
  timer_apart p a =
      let m : byte_at (placed s at bs) p ≡ byte_at s p = byte_apart a p (omega arith) (omega arith) in
      rw (m, byte p 8 a 1 (omega arith), byte p 8 a 2 (omega arith), word p 8 a 4 4 (omega arith))

  pub client_apart : (p : ℕ) → Apart at n p (p + 40) → client_at (placed s at bs) p ≡ client_at s p
  client_apart p a =
      let b : (k : ℕ) → k < 40 → byte_at (placed s at bs) (p + k) ≡ byte_at s (p + k) = byte p 40 a in
      let w : (k : ℕ) → k + 8 ≤ 40 → word_at 8 (placed s at bs) (p + k) ≡ word_at 8 s (p + k) = word p 40 a 8 in
      let m : word_at 8 (placed s at bs) p ≡ word_at 8 s p = word_apart a 8 p (omega arith) (omega arith) in
      rw (m, w 8 (omega arith), w 16 (omega arith), w 24 (omega arith), b 32 (omega arith), b 33 (omega arith))

  -- ## Parts of an image

  pub table_apart : Apart at n table_place image_size → table_in (placed s at bs) ≡ table_in s
  table_apart a = part_apart a table_size table_place (omega arith) (omega arith)

  -- what is written behind the mark leaves it, and an image

  pub mark_apart : clock_place ≤ at → has_lists (placed s at bs) ≡ has_lists s
  mark_apart h = rw (frame.byte_before s at bs store_place (omega arith))

  pub image_apart : clock_place ≤ at → is_image s ≡ true → is_image (placed s at bs) ≡ true
  image_apart h i =
      let m = image_is s i in
      is_image_lem (placed s at bs)
      (record {
        size = omega (arith, frame.length_placed s at bs, m.size);
        marked = rw (frame.word_before s at bs 4 magic_place (omega arith)) m.marked;
      })
