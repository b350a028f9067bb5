-- What stands at a place where the bytes fit, and where they do not.
use Rattle.std.proofs.Common.{None, Some, Bool, true, false, cond, List, ◌≡◌, refl, sym, ◌∙◌, ℕ, ◌+◌, ◌≤◌, ◌<◌, arith, le-leb, leb-true, length, take, drop, length-drop, length-take-le, drop-drop}
use Rattle.std.proofs.lemmas.Bool.{lt-leb}
use Rattle.model.specs.Bytes.{take_bytes, number, well_formed}
use Rattle.word.specs.Place.{fits_at, number_at, text_at, put, placed, copied}

module _ (w : ℕ) (s : List ℕ) (at : ℕ) where
  -- where they fit, the bytes at a place are what a reader takes off the bytes from there on
  pub front_fits : at + w ≤ length s → take_bytes w (drop at s) ≡ Some (take w (drop at s), drop (at + w) s)
  unfolding take_bytes
  front_fits h =
      let l : w ≤ length (drop at s) = omega (arith, length-drop at s) in
      rw (le-leb w (length (drop at s)) l, drop-drop w at s)

  pub front_short : 0 < w → length s < at + w → take_bytes w (drop at s) ≡ None
  unfolding take_bytes
  front_short p h =
      let l : length (drop at s) < w = omega (arith, length-drop at s) in
      rw (lt-leb w (length (drop at s)) l)

-- ## By what `in_bounds` answered

module _ (w : ℕ) (s : List ℕ) (at : ℕ) {b : Bool} (f : b ≡ fits_at s at w) where
  pub fitting : b ≡ true → at + w ≤ length s
  fitting t = leb-true (at + w) (length s) (sym f ∙ t)

  pub number_is : b ≡ true → number_at w s at ≡ Some (number (take w (drop at s)))
  unfolding number_at
  number_is t = rw (sym f ∙ t)

  pub number_none : b ≡ false → number_at w s at ≡ None
  unfolding number_at
  number_none t = rw (sym f ∙ t)

-- a well-formed part is there
pub text_there : (n : ℕ) (s : List ℕ) (at : ℕ) → text_at s at n ≡ true → (fits_at s at n ≡ true) × (well_formed (take n (drop at s)) ≡ true)
unfolding text_at
text_there n s at t = go (fits_at s at n) t
  where
    go : (b : Bool) → cond b (well_formed (take n (drop at s))) false ≡ true → (b ≡ true) × (well_formed (take n (drop at s)) ≡ true)
    go true h = (refl, h)
    go false h = (h, cc)

-- bytes that fit are put there
pub placed_there : (s : List ℕ) (at : ℕ) (bs : List ℕ) → at + length bs ≤ length s → placed s at bs ≡ put s at bs
unfolding placed
placed_there s at bs h = rw (le-leb (at + length bs) (length s) h)

-- ## A part copied

-- where both have the bytes
pub copied_there : (s : List ℕ) (at : ℕ) (t : List ℕ) (from n : ℕ) → from + n ≤ length t → at + n ≤ length s → copied s at t from n ≡ put s at (take n (drop from t))
unfolding copied
copied_there s at t from n h k = rw (le-leb (from + n) (length t) h, le-leb (at + n) (length s) k)

-- where the bytes are there, they are placed
pub copied_placed : (s : List ℕ) (at : ℕ) (t : List ℕ) (from n : ℕ) → from + n ≤ length t → copied s at t from n ≡ placed s at (take n (drop from t))
unfolding copied placed
copied_placed s at t from n h =
    let l : length (take n (drop from t)) ≡ n = length-take-le n (drop from t) (omega (arith, length-drop from t)) in
    rw (le-leb (from + n) (length t) h, l)

-- where they are not, nothing is
pub copied_few : (s : List ℕ) (at : ℕ) (t : List ℕ) (from n : ℕ) → length t < from + n → copied s at t from n ≡ s
unfolding copied
copied_few s at t from n h = rw (lt-leb (from + n) (length t) h)
