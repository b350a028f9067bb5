-- What stays, and what stands there, where bytes are written at a place.
use Rattle.std.proofs.Common.{List, [], ◌∷◌, ◌++◌, append_assoc, append-nil, ◌≡◌, refl, sym, ap, ◌∙◌, ℕ, zero, suc, ◌+◌, ◌-◌, ◌^◌, ◌≤◌, ◌<◌, arith, le-leb, leb-true, leb-false, leb, length, take, drop, get_or, length-append, length-drop, length-take-le, take-take, drop-drop, take_at, drop_at, get_or-take, get_or-drop}
use Rattle.std.proofs.lemmas.Bool.{lt-leb}
use Rattle.std.proofs.Math.ListN.{get_or-append}
use Rattle.std.proofs.Math.Seq.{take-nil, drop-nil, take-append-le, drop-append-le, drop-length}
use borrow.Rule.Slice.PartMut.{put_mid}
use Rattle.model.specs.Bytes.{bytes, number}
use Rattle.model.proofs.Facts.{by_test}
use Rattle.model.proofs.Words.{length_bytes, number_bytes}
use Rattle.word.specs.Place.{put, placed, byte_at, word_at}
use Rattle.word.proofs.Laws.{length_put}
use Rattle.word.proofs.Places.{placed_there}

-- a part is the end of a front
pub part_front : (n i : ℕ) (l : List ℕ) → take n (drop i l) ≡ drop i (take (i + n) l)
part_front n zero l = let e : n ≡ 0 + n = omega arith in ap (λ (k : ℕ). take k l) e
part_front n (suc i) [] = take-nil n ∙ sym (ap (drop (suc i)) (take-nil (suc i + n)) ∙ drop-nil (suc i))
part_front n (suc i) (x ∷ l) = let e : suc (i + n) ≡ suc i + n = omega arith in part_front n i l ∙ ap (λ (k : ℕ). drop (suc i) (take k (x ∷ l))) e

module _ (s : List ℕ) (at : ℕ) (bs : List ℕ) where
  -- by whether the bytes fit
  pub placed_else : length s < at + length bs → placed s at bs ≡ s
  unfolding placed
  placed_else h = rw (lt-leb (at + length bs) (length s) h)

  whether : {A : Type 0} (f : List ℕ → A) → (at + length bs ≤ length s → f (put s at bs) ≡ f s) → f (placed s at bs) ≡ f s
  whether f g =
      by_test (leb (at + length bs) (length s))
      (λ b. let h = leb-true (at + length bs) (length s) b in ap f (placed_there s at bs h) ∙ g h)
      (λ b. ap f (placed_else (leb-false (at + length bs) (length s) b)))

  pub length_placed : length (placed s at bs) ≡ length s
  length_placed = whether length (length_put s at bs)

  same_word : (w i : ℕ) → take w (drop i (placed s at bs)) ≡ take w (drop i s) → word_at w (placed s at bs) i ≡ word_at w s i
  unfolding word_at
  same_word w i e = rw (length_placed, e)

  -- ## Before the bytes, and after them, all stays

  pub take_placed : (k : ℕ) → k ≤ at → take k (placed s at bs) ≡ take k s
  take_placed k q =
      whether (take k)
      (λ h.
      let l = length-take-le at s (omega arith) in
      let m = length-append (take at s) bs in
      take-append-le k (take at s ++ bs) (drop (at + length bs) s) (omega arith) ∙ take-append-le k (take at s) bs (omega arith) ∙ take-take k at s q)

  pub drop_placed : (k : ℕ) → at + length bs ≤ k → drop k (placed s at bs) ≡ drop k s
  drop_placed k q =
      whether (drop k)
      (λ h.
      let n = at + length bs in
      let l = length-take-le at s (omega arith) in
      let m = length-append (take at s) bs in
      let e : n + (k - n) ≡ k = omega arith in
      ap (λ (i : ℕ). drop i (put s at bs)) (sym e) ∙ sym (drop-drop (k - n) n (put s at bs)) ∙ ap (drop (k - n)) (drop_at (take at s ++ bs) (drop n s) n (omega arith))
      ∙ drop-drop (k - n) n s ∙ ap (λ (i : ℕ). drop i s) e)

  pub byte_before : (i : ℕ) → i < at → byte_at (placed s at bs) i ≡ byte_at s i
  byte_before i q = sym (get_or-take at (placed s at bs) i 0 q) ∙ ap (λ (l : List ℕ). get_or l i 0) (take_placed at (omega arith)) ∙ get_or-take at s i 0 q

  pub byte_after : (i : ℕ) → at + length bs ≤ i → byte_at (placed s at bs) i ≡ byte_at s i
  byte_after i q =
      let e : i + 0 ≡ i = omega arith in
      ap (λ (k : ℕ). get_or (placed s at bs) k 0) (sym e) ∙ sym (get_or-drop i (placed s at bs) 0 0) ∙ ap (λ (l : List ℕ). get_or l 0 0) (drop_placed i q)
      ∙ get_or-drop i s 0 0 ∙ ap (λ (k : ℕ). get_or s k 0) e

  pub part_before : (n i : ℕ) → i + n ≤ at → take n (drop i (placed s at bs)) ≡ take n (drop i s)
  part_before n i q = part_front n i (placed s at bs) ∙ ap (drop i) (take_placed (i + n) q) ∙ sym (part_front n i s)

  pub part_after : (n i : ℕ) → at + length bs ≤ i → take n (drop i (placed s at bs)) ≡ take n (drop i s)
  part_after n i q = ap (take n) (drop_placed i q)

  pub word_before : (w i : ℕ) → i + w ≤ at → word_at w (placed s at bs) i ≡ word_at w s i
  word_before w i q = same_word w i (part_before w i q)

  pub word_after : (w i : ℕ) → at + length bs ≤ i → word_at w (placed s at bs) i ≡ word_at w s i
  word_after w i q = same_word w i (part_after w i q)

  -- ## Where the bytes are, they are what was written

  module _ (fits : at + length bs ≤ length s) where
    from_place : drop at (placed s at bs) ≡ bs ++ drop (at + length bs) s
    from_place =
        ap (drop at) (placed_there s at bs fits ∙ append_assoc (take at s) bs (drop (at + length bs) s))
        ∙ drop_at (take at s) (bs ++ drop (at + length bs) s) at (length-take-le at s (omega arith))

    -- the part that is written at `i`, from the k-th of the bytes on
    pub part_in : (n i k : ℕ) → i ≡ at + k → k + n ≤ length bs → take n (drop i (placed s at bs)) ≡ take n (drop k bs)
    part_in n i k e q =
        let l = length-drop k bs in
        ap (λ (j : ℕ). take n (drop j (placed s at bs))) e ∙ ap (take n) (sym (drop-drop k at (placed s at bs)) ∙ ap (drop k) from_place
        ∙ drop-append-le k bs (drop (at + length bs) s) (omega arith)) ∙ take-append-le n (drop k bs) (drop (at + length bs) s) (omega arith)

    pub byte_in : (i k : ℕ) → i ≡ at + k → k < length bs → byte_at (placed s at bs) i ≡ get_or bs k 0
    byte_in i k e q =
        ap (byte_at (placed s at bs)) e ∙ sym (get_or-drop at (placed s at bs) k 0) ∙ ap (λ (l : List ℕ). get_or l k 0) from_place
        ∙ get_or-append bs (drop (at + length bs) s) 0 k q

    pub word_in : (w i k : ℕ) → i ≡ at + k → k + w ≤ length bs → word_at w (placed s at bs) i ≡ number (take w (drop k bs))
    unfolding word_at
    word_in w i k e q = rw (le-leb (i + w) (length (placed s at bs)) (omega (arith, length_placed)), part_in w i k e q)

-- the number that is written behind the bytes xs reads back
pub number_in : (w v : ℕ) (xs ys : List ℕ) (s : List ℕ) (at i : ℕ) → v < 256 ^ w → at + length (xs ++ (bytes w v ++ ys)) ≤ length s → i ≡ at + length xs
    → word_at w (placed s at (xs ++ (bytes w v ++ ys))) i ≡ v
number_in w v xs ys s at i b h e =
    let l = length_bytes w v in
    let m = length-append xs (bytes w v ++ ys) in
    let n = length-append (bytes w v) ys in
    word_in s at (xs ++ (bytes w v ++ ys)) h w i (length xs) e (omega arith)
    ∙ ap (λ (l : List ℕ). number (take w l)) (drop_at xs (bytes w v ++ ys) (length xs) refl)
    ∙ ap number (take_at (bytes w v) ys w l) ∙ number_bytes w v b

-- ## Bytes that fill the whole, and a part that was lent and comes back

pub placed_whole : (s bs : List ℕ) → length bs ≡ length s → placed s 0 bs ≡ bs
placed_whole s bs l =
    let e : 0 + length bs ≡ length s = omega arith in
    placed_there s 0 bs (omega arith) ∙ ap (λ (r : List ℕ). bs ++ r) (ap (λ (k : ℕ). drop k s) e ∙ drop-length s) ∙ append-nil bs

pub placed_part : (s : List ℕ) (at n : ℕ) (bs : List ℕ) → length bs ≡ n → at + n ≤ length s → put_mid at n s bs ≡ placed s at bs
placed_part s at n bs l h =
    sym (append_assoc (take at s) bs (drop n (drop at s)))
    ∙ ap (λ (r : List ℕ). take at s ++ bs ++ r) (drop-drop n at s ∙ ap (λ (k : ℕ). drop (at + k) s) (sym l)) ∙ sym (placed_there s at bs (omega arith))
