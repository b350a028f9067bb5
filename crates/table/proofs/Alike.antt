-- Two slices whose bytes are alike in a range, and what is read there.
use Rattle.std.proofs.Common.{◌≡◌, ℕ, zero, suc, ◌+◌, ◌<◌, ◌≤◌, List, [], ◌∷◌, length, take, drop, sym, refl, ap, ◌∙◌, arith, length-drop, length-take, get_or-drop, get_or-take, ext_get_or}
use Rattle.model.specs.Basics.{All}
use Rattle.word.specs.Place.{byte_at, word_at, placed}
use Rattle.table.specs.Layout.{entries_from, put_entries}
use Rattle.word.proofs.Frame.{length_placed, byte_before, byte_after}

-- of the same length, with the same bytes from p to q
pub record Alike (p q : ℕ) (s t : List ℕ) : Type 0 where
  pub long : length t ≡ length s
  pub each : (i : ℕ) → p ≤ i → i < q → byte_at t i ≡ byte_at s i

module _ {p q : ℕ} {s t : List ℕ} (a : Alike p q s t) where
  pub same_byte : (i : ℕ) → p ≤ i → i < q → byte_at t i ≡ byte_at s i
  same_byte = a.each

  pub same_part : (n i : ℕ) → p ≤ i → i + n ≤ q → take n (drop i t) ≡ take n (drop i s)
  same_part n i h k =
      let l = length-take n (drop i t) in
      let m = length-take n (drop i s) in
      let d = length-drop i t in
      let e = length-drop i s in
      ext_get_or 0 (take n (drop i t)) (take n (drop i s)) (omega (arith, a.long))
      (λ j b.
      get_or-take n (drop i t) j 0 (omega arith) ∙ get_or-drop i t j 0 ∙ a.each (i + j) (omega arith) (omega arith)
      ∙ sym (get_or-take n (drop i s) j 0 (omega arith) ∙ get_or-drop i s j 0))

  pub same_word : (w i : ℕ) → p ≤ i → i + w ≤ q → word_at w t i ≡ word_at w s i
  unfolding word_at
  same_word w i h k = rw (a.long, same_part w i h k)

  pub narrower : (p' q' : ℕ) → p ≤ p' → q' ≤ q → Alike p' q' s t
  narrower p' q' h k = record { long = a.long; each = λ i b c. a.each i (omega arith) (omega arith) }

  pub then_alike : {u : List ℕ} → Alike p q t u → Alike p q s u
  then_alike b = record { long = b.long ∙ a.long; each = λ i h k. b.each i h k ∙ a.each i h k }

-- ## Bytes written elsewhere

module _ (p q : ℕ) where
  pub itself : (s : List ℕ) → Alike p q s s
  itself s = record { long = refl; each = λ i h k. refl }

  module _ (s : List ℕ) (at : ℕ) (bs : List ℕ) where
    pub alike_before : q ≤ at → Alike p q s (placed s at bs)
    alike_before h = record { long = length_placed s at bs; each = λ i b c. byte_before s at bs i (omega arith) }

    pub alike_after : at + length bs ≤ p → Alike p q s (placed s at bs)
    alike_after h = record { long = length_placed s at bs; each = λ i b c. byte_after s at bs i (omega arith) }

  module _ {A : Type 0} (place : ℕ → ℕ) (entry_bytes : A → List ℕ) where
    -- entries written behind the range
    pub entries_before : (s : List ℕ) (i : ℕ) (xs : List A) → ((j : ℕ) → i ≤ j → q ≤ place j) → Alike p q s (put_entries place entry_bytes s i xs)
    unfolding put_entries
    entries_before s i [] h = itself s
    entries_before s i (x ∷ xs) h =
        then_alike (alike_before s (place i) (entry_bytes x) (h i (omega arith)))
        (entries_before (placed s (place i) (entry_bytes x)) (suc i) xs (λ j k. h j (omega arith)))

    -- and in front of it
    pub entries_after : (s : List ℕ) (i n size : ℕ) (xs : List A) → i + length xs ≤ n → All (λ x. length (entry_bytes x) ≤ size) xs → ((j : ℕ) → j < n → place j + size ≤ p)
        → Alike p q s (put_entries place entry_bytes s i xs)
    unfolding put_entries
    entries_after s i n size [] r f h = itself s
    entries_after s i n size (x ∷ xs) r f h =
        then_alike (alike_after s (place i) (entry_bytes x) (omega (arith, f.0, h i (omega arith))))
        (entries_after (placed s (place i) (entry_bytes x)) (suc i) n size xs (omega arith) f.1 h)

-- ## Entries in places that are alike

module _ {A : Type 0} where
  pub same_entries : (f g : ℕ → A) (n i m : ℕ) → ((j : ℕ) → j < n → f j ≡ g j) → i + m ≤ n → entries_from f i m ≡ entries_from g i m
  unfolding entries_from
  same_entries f g n i zero h r = refl
  same_entries f g n i (suc m) h r =
      ap (λ (x : A). x ∷ entries_from f (suc i) m) (h i (omega arith)) ∙ ap (λ (l : List A). g i ∷ l) (same_entries f g n (suc i) m h (omega arith))

-- ## Entries written read back

module _ {A : Type 0} (place : ℕ → ℕ) (entry_bytes : A → List ℕ) (read_at : List ℕ → ℕ → A) (size : ℕ) (Good : A → Type 0)
    (local : (s t : List ℕ) (p : ℕ) → Alike p (p + size) s t → read_at t p ≡ read_at s p)
    (short : (x : A) → Good x → length (entry_bytes x) ≤ size)
    (back : (s : List ℕ) (p : ℕ) (x : A) → Good x → p + length (entry_bytes x) ≤ length s → read_at (placed s p (entry_bytes x)) p ≡ x)
    (apart : (i j : ℕ) → suc i ≤ j → place i + size ≤ place j) where
  pub entries_back : (s : List ℕ) (i n : ℕ) (xs : List A) → All Good xs → i + length xs ≤ n → ((j : ℕ) → j < n → place j + size ≤ length s)
      → entries_from (λ j. read_at (put_entries place entry_bytes s i xs) (place j)) i (length xs) ≡ xs
  unfolding entries_from put_entries
  entries_back s i n [] g r h = refl
  entries_back s i n (x ∷ xs) g r h =
      let u = placed s (place i) (entry_bytes x) in
      let t = put_entries place entry_bytes u (suc i) xs in
      let l = length_placed s (place i) (entry_bytes x) in
      let b : read_at t (place i) ≡ x
      = local u t (place i) (entries_before (place i) (place i + size) place entry_bytes u (suc i) xs (λ j k. apart i j k))
      ∙ back s (place i) x g.0 (omega (arith, short x g.0, h i (omega arith))) in
      ap (λ (y : A). y ∷ entries_from (λ j. read_at t (place j)) (suc i) (length xs)) b
      ∙ ap (λ (ys : List A). x ∷ ys) (entries_back u (suc i) n xs g.1 (omega arith) (λ j k. omega (arith, h j k)))
