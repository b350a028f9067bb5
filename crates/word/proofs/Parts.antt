-- A part of some bytes: cut out, read as a number, and written.
use Rattle.std.proofs.Common.{Bool, true, false, cond, List, ◌++◌, ◌≡◌, refl, sym, ap, ◌∙◌, ℕ, zero, suc, ◌+◌, ◌*◌, ◌<◌, ◌≤◌, pos, length, take, drop, slice_index, arith, Option, None, Some, Bor, append_assoc, drop-drop, take-append-drop, le-leb, leb-true, MatchOption, option_map, option_copied, unwrap_or, length-drop, length-take-le}
use Rattle.std.proofs.lemmas.Bool.{lt-leb}
use Rattle.std.specs.Array.{IsFirstChunk}
use Rattle.std.specs.Simd.{first_chunks}
use Rattle.std.specs.Int.{byte_worth, bytes_low_first, sum_through}
use Rattle.model.specs.Bytes.{bytes, all_bytes, number, signed}
use Rattle.model.proofs.Words.{length_bytes}
use Rattle.word.specs.Place.{fits_at, part_at, number_at, signed_at, word_at, placed}
use Rattle.word.proofs.Endian.{from_le, to_le}

-- ## Cut out

module _ (n : ℕ) (s : List ℕ) (at : ℕ) where
  pub part_there : at + n ≤ length s → part_at n s at ≡ Some (take n (drop at s))
  unfolding part_at
  part_there h = rw (le-leb (at + n) (length s) h)

  pub part_missing : length s < at + n → part_at n s at ≡ None
  unfolding part_at
  part_missing h = rw (lt-leb (at + n) (length s) h)

  -- the front of what is left after `at`
  pub part_front : (o : Option (Bor (List ℕ))) (rest : List ℕ) → rest ≡ drop at s → at ≤ length s
      → MatchOption o (length rest < n) (λ y. IsFirstChunk rest y.now n) → option_copied o ≡ part_at n s at
  part_front None rest e l h = sym (part_missing (omega (arith, h, ap length e, length-drop at s)))
  part_front (Some y) rest e l h =
      ap Some (h.same ∙ ap (take n) e) ∙ sym (part_there (omega (arith, h.enough, ap length e, length-drop at s)))

  -- a part that is there has its length
  long : (b : Bool) (bs : List ℕ) → (b ≡ true → at + n ≤ length s) → cond b (Some (take n (drop at s))) None ≡ Some bs → length bs ≡ n
  long true bs l h =
      let e : take n (drop at s) ≡ bs = cc in
      ap length (sym e) ∙ length-take-le n (drop at s) (omega (arith, l refl, length-drop at s))
  long false bs l h = cc

  pub part_long : (bs : List ℕ) → part_at n s at ≡ Some bs → length bs ≡ n
  unfolding part_at
  part_long bs h = long (fits_at s at n) bs (leb-true (at + n) (length s)) h

-- ## Read as a number

module _ (w : ℕ) (s : List ℕ) (at : ℕ) where
  pub number_of_part : number_at w s at ≡ option_map number (part_at w s at)
  unfolding number_at part_at
  number_of_part = go (fits_at s at w)
    where
      go : (b : Bool) → cond b (Some (number (take w (drop at s)))) None ≡ option_map number (cond b (Some (take w (drop at s))) None)
      go true = refl
      go false = refl

  pub word_of_number : word_at w s at ≡ unwrap_or (number_at w s at) 0
  unfolding word_at number_at
  word_of_number = go (fits_at s at w)
    where
      go : (b : Bool) → cond b (number (take w (drop at s))) 0 ≡ unwrap_or (cond b (Some (number (take w (drop at s)))) None) 0
      go true = refl
      go false = refl

  pub unread : {o : Option (List ℕ)} {r : Option ℕ} → o ≡ part_at w s at → o ≡ None → r ≡ None → r ≡ number_at w s at
  unread p e q = q ∙ sym (number_of_part ∙ ap (option_map number) (sym p ∙ e))

-- the offset, or 0
pub offset_of_signed : (s : List ℕ) (at : ℕ) → signed (word_at 4 s at) ≡ unwrap_or (signed_at s at) (pos 0)
unfolding word_at number_at signed
offset_of_signed s at = go (fits_at s at 4)
  where
    go : (b : Bool) → signed (cond b (number (take 4 (drop at s))) 0) ≡ unwrap_or (option_map signed (cond b (Some (number (take 4 (drop at s)))) None)) (pos 0)
    go true = refl
    go false = refl

-- a part that was read, the lowest byte first
pub read : (k : ℕ) (s : List ℕ) (at : ℕ) {o : Option (List ℕ)} (bs : List ℕ) {v : ℕ} → o ≡ part_at (suc k) s at → o ≡ Some bs
    → v ≡ sum_through (λ i. byte_worth i (slice_index bs i)) k → Some v ≡ number_at (suc k) s at
read k s at bs p e q =
    let there = sym p ∙ e in
    ap Some (q ∙ from_le k bs (part_long (suc k) s at bs there)) ∙ sym (number_of_part (suc k) s at ∙ ap (option_map number) there)

-- ## Written

-- a number's bytes, the lowest first
pub wrote_le : (k : ℕ) (s : List ℕ) (at v : ℕ) {bs out : List ℕ} {b : Bool} → bs ≡ bytes_low_first 0 k v
    → (b ≡ fits_at s at (length bs)) × (out ≡ placed s at bs) → (b ≡ fits_at s at k) × (out ≡ placed s at (bytes k v))
wrote_le k s at v e w =
    let p = e ∙ to_le k v in
    (w.0 ∙ ap (fits_at s at) (ap length p ∙ length_bytes k v), w.1 ∙ ap (placed s at) p)

-- words one after another, and the bytes behind them, are the bytes that they were cut from
pub words_and_rest : (n k : ℕ) (xs : List ℕ) → all_bytes (λ (w : List ℕ). w) (first_chunks n k xs) ++ drop (k * n) xs ≡ xs
unfolding all_bytes
words_and_rest n zero xs = let e : 0 * n ≡ 0 = omega arith in ap (λ (j : ℕ). drop j xs) e
words_and_rest n (suc k) xs =
    let e : suc k * n ≡ n + k * n = omega arith in
    append_assoc (take n xs) (all_bytes (λ (w : List ℕ). w) (first_chunks n k (drop n xs))) (drop (suc k * n) xs)
    ∙ ap (λ (l : List ℕ). take n xs ++ l)
    (ap (λ (l : List ℕ). all_bytes (λ (w : List ℕ). w) (first_chunks n k (drop n xs)) ++ l) (ap (λ (j : ℕ). drop j xs) e ∙ sym (drop-drop (k * n) n xs))
    ∙ words_and_rest n k (drop n xs))
    ∙ take-append-drop n xs
