-- A run of writes at a place.
use Rattle.std.proofs.Common.{ℕ, suc, ◌+◌, ◌≤◌, ◌<◌, ◌≡◌, sym, ap, ◌∙◌, List, [], ◌∷◌, ◌++◌, append_assoc, add-one, arith, length, take, drop, set, length-append, length-drop, drop-drop, take_at, drop_at, length-take-le}
use Rattle.std.proofs.Math.Seq.{set_split, append_snoc}
use Rattle.word.specs.Place.{put}

-- ## A run of writes
module _ (s : List ℕ) (at : ℕ) (xs : List ℕ) where
  put_head : at ≤ length s → length (take at s ++ xs) ≡ at + length xs
  put_head h = length-append (take at s) xs ∙ ap (λ (n : ℕ). n + length xs) (length-take-le at s h)

  pub length_put : at + length xs ≤ length s → length (put s at xs) ≡ length s
  length_put h = simp (length-append, length-drop, length-take-le at s (omega arith)) (omega arith)

  -- bytes, and then more bytes after them
  pub put_put : (ys : List ℕ) {at' : ℕ} → at' ≡ at + length xs → at ≤ length s → put (put s at xs) at' ys ≡ put s at (xs ++ ys)
  put_put ys e h =
      let p = take at s ++ xs in
      let n = at + length xs in
      let k : n + length ys ≡ at + length (xs ++ ys) = omega (arith, length-append xs ys) in
      let d : drop (n + length ys) (put s at xs) ≡ drop (at + length (xs ++ ys)) s =
      sym (drop-drop (length ys) n (put s at xs)) ∙ ap (drop (length ys)) (drop_at p (drop n s) n (put_head h)) ∙ drop-drop (length ys) n s
      ∙ ap (λ (m : ℕ). drop m s) k in
      rw e
      (ap (λ (t : List ℕ). t ++ ys ++ drop (n + length ys) (put s at xs)) (take_at p (drop n s) n (put_head h))
      ∙ ap (λ (t : List ℕ). p ++ ys ++ t) d
      ∙ ap (λ (t : List ℕ). t ++ drop (at + length (xs ++ ys)) s) (append_assoc (take at s) xs ys))

-- one byte
pub put_one : (s : List ℕ) (at b : ℕ) → at < length s → set s at b ≡ put s at (b ∷ [])
put_one s at b h = set_split s at b h ∙ sym (append_snoc (take at s) b (drop (suc at) s)) ∙ ap (λ (k : ℕ). take at s ++ (b ∷ []) ++ drop k s) (sym (add-one at))
