-- A run of writes, one after another from a place on.
use Rattle.std.proofs.Common.{Bool, false, ◌&&◌, cond, leb, leb-true, leb-false, le-leb, le-ltb, lt-ltb, List, [], ◌∷◌, ◌++◌, append_assoc, append-nil, ◌≡◌, refl, sym, ap, ◌∙◌, ℕ, ◌+◌, ◌*◌, ◌-◌, ◌≤◌, ◌<◌, min, drop, length-drop, add-zero, add-one, arith, length, take, set, get_or, length-append, take-append-drop, take-suc, take_all}
use Rattle.std.proofs.lemmas.Bool.{lt-leb}
use Rattle.std.proofs.lemmas.List.{take_min}
use Rattle.std.proofs.Math.ListN.{drop_of_length-le}
use Rattle.model.specs.Bytes.{bytes, all_bytes}
use Rattle.model.specs.Output.{too_short, copied_over}
use Rattle.model.proofs.Facts.{by_test}
use Rattle.model.proofs.Words.{length_bytes}
use Rattle.word.specs.Place.{fits_at, put, placed, copied, with_numbers}
use Rattle.word.proofs.Laws.{length_put, put_put, put_one}
use Rattle.word.proofs.Places.{placed_there, copied_there, copied_placed}

-- bytes that do not fit are not put anywhere
pub placed_short : (s : List ℕ) (at : ℕ) (bs : List ℕ) → fits_at s at (length bs) ≡ false → placed s at bs ≡ s
unfolding placed
placed_short s at bs h = rw h

-- `out` is `s` with the bytes `xs` from `at` on
pub record Wrote (s : List ℕ) (at : ℕ) (xs out : List ℕ) : Type 0 where
  pub room : at + length xs ≤ length s
  pub is : out ≡ put s at xs

module _ {s : List ℕ} {at : ℕ} where
  pub wrote_none : at ≤ length s → Wrote s at [] s
  wrote_none h = record { room = omega arith; is = sym (ap (λ (k : ℕ). take at s ++ [] ++ drop k s) (add-zero at) ∙ ap (λ (l : List ℕ). l ++ drop at s) (append-nil (take at s)) ∙ take-append-drop at s) }

  module _ {xs out : List ℕ} (w : Wrote s at xs out) where
    pub same_length : length out ≡ length s
    same_length = ap length w.is ∙ length_put s at xs w.room

    pub wrote_put : (ys : List ℕ) (k : ℕ) (out' : List ℕ) → k ≡ at + length xs → k + length ys ≤ length s → out' ≡ put out k ys → Wrote s at (xs ++ ys) out'
    wrote_put ys k out' e r q =
        record {
          room = omega (arith, length-append xs ys);
          is = q ∙ ap (λ (l : List ℕ). put l k ys) w.is ∙ put_put s at xs ys e (omega (arith, w.room));
        }

    pub wrote_placed : (ys : List ℕ) (k : ℕ) (out' : List ℕ) → k ≡ at + length xs → k + length ys ≤ length s → out' ≡ placed out k ys → Wrote s at (xs ++ ys) out'
    wrote_placed ys k out' e r q = wrote_put ys k out' e r (q ∙ placed_there out k ys (omega (arith, same_length)))

    pub wrote_byte : (b k : ℕ) (out' : List ℕ) → k ≡ at + length xs → k < length s → out' ≡ set out k b → Wrote s at (xs ++ (b ∷ [])) out'
    wrote_byte b k out' e r q = wrote_put (b ∷ []) k out' e (omega arith) (q ∙ put_one out k b (omega (arith, same_length)))

    -- the same bytes, bracketed otherwise
    pub wrote_as : (ys : List ℕ) → xs ≡ ys → Wrote s at ys out
    wrote_as ys e = record { room = rw (← e) w.room; is = rw (← e) w.is }

-- ## Entries

module _ {A : Type 0} (entry_bytes : A → List ℕ) where
  pub all_append : (xs ys : List A) → all_bytes entry_bytes (xs ++ ys) ≡ all_bytes entry_bytes xs ++ all_bytes entry_bytes ys
  unfolding all_bytes
  all_append [] ys = refl
  all_append (x ∷ xs) ys = ap (λ (l : List ℕ). entry_bytes x ++ l) (all_append xs ys) ∙ sym (append_assoc (entry_bytes x) (all_bytes entry_bytes xs) (all_bytes entry_bytes ys))

  -- one entry more
  pub all_more : (l : List A) (i : ℕ) (d : A) → i < length l → all_bytes entry_bytes (take (i + 1) l) ≡ all_bytes entry_bytes (take i l) ++ entry_bytes (get_or l i d)
  unfolding all_bytes
  all_more l i d h =
      ap (all_bytes entry_bytes) (ap (λ (k : ℕ). take k l) (add-one i) ∙ take-suc l i d h)
      ∙ all_append (take i l) (get_or l i d ∷ []) ∙ ap (λ (r : List ℕ). all_bytes entry_bytes (take i l) ++ r) (append-nil (entry_bytes (get_or l i d)))

  -- no more than `most` bytes each
  pub all_short : (most : ℕ) → ((x : A) → length (entry_bytes x) ≤ most) → (l : List A) → length (all_bytes entry_bytes l) ≤ most * length l
  unfolding all_bytes
  all_short most f [] = omega arith
  all_short most f (x ∷ l) = omega (arith, length-append (entry_bytes x) (all_bytes entry_bytes l), f x, all_short most f l)

-- ## Numbers one after another

abbrev pub numbers_bytes : List ℕ → List ℕ
numbers_bytes ns = all_bytes (λ m. bytes 8 m) ns

pub length_numbers : (ns : List ℕ) → length (numbers_bytes ns) ≡ 8 * length ns
unfolding all_bytes
length_numbers [] = refl
length_numbers (n ∷ ns) = omega (arith, length-append (bytes 8 n) (numbers_bytes ns), length_bytes 8 n, length_numbers ns)

pub no_numbers : numbers_bytes [] ≡ []
unfolding all_bytes
no_numbers = refl

-- where there are so many and all have room
pub numbers_there : (s ns : List ℕ) (n : ℕ) → n ≤ length ns → 8 * n ≤ length s → with_numbers s ns n ≡ put s 0 (numbers_bytes (take n ns))
unfolding with_numbers
numbers_there s ns n h k = rw (le-leb n (length ns) h, le-leb (8 * n) (length s) k)

pub numbers_few : (s ns : List ℕ) (n : ℕ) → length ns < n → with_numbers s ns n ≡ s
unfolding with_numbers
numbers_few s ns n h = rw (lt-leb n (length ns) h)

pub numbers_short : (s ns : List ℕ) (n : ℕ) → n ≤ length ns → length s < 8 * n → with_numbers s ns n ≡ s
unfolding with_numbers
numbers_short s ns n h k = rw (le-leb n (length ns) h, lt-leb (8 * n) (length s) k)

-- all of them are placed at the front
numbers_placed : (s ns : List ℕ) → with_numbers s ns (length ns) ≡ placed s 0 (numbers_bytes ns)
numbers_placed s ns =
    by_test (leb (8 * length ns) (length s))
    (λ l.
    let h = leb-true (8 * length ns) (length s) l in
    numbers_there s ns (length ns) (omega arith) h ∙ ap (λ (ms : List ℕ). put s 0 (numbers_bytes ms)) (take_all (length ns) ns (omega arith))
    ∙ sym (placed_there s 0 (numbers_bytes ns) (omega (arith, length_numbers ns))))
    (λ l.
    let h = leb-false (8 * length ns) (length s) l in
    numbers_short s ns (length ns) (omega arith) h ∙ sym (placed_short s 0 (numbers_bytes ns) (lt-leb (0 + length (numbers_bytes ns)) (length s) (omega (arith, length_numbers ns)))))

-- what `put_u64s` says where n is how many there are
pub all_placed : (s ns : List ℕ) {b : Bool} {out : List ℕ} → b ≡ leb (length ns) (length ns) && fits_at s 0 (8 * length ns) → out ≡ with_numbers s ns (length ns)
    → (b ≡ fits_at s 0 (8 * length ns)) × (out ≡ placed s 0 (numbers_bytes ns))
all_placed s ns f w = (f ∙ rw (le-leb (length ns) (length ns) (omega arith)) refl, w ∙ numbers_placed s ns)

-- bytes put at the front stand over what was there
pub put_front : (s bs : List ℕ) → put s 0 bs ≡ copied_over bs s
put_front s bs = let e : 0 + length bs ≡ length bs = omega arith in ap (λ (k : ℕ). bs ++ drop k s) e

-- bytes that are placed at the front stand over it where they have room
pub placed_front : (s bs : List ℕ) → placed s 0 bs ≡ cond (too_short (length s) bs) s (copied_over bs s)
unfolding placed
placed_front s bs =
    by_test (leb (0 + length bs) (length s))
    (λ l. rw (l, le-ltb (length s) (length bs) (omega (arith, leb-true (0 + length bs) (length s) l))) (put_front s bs))
    (λ l. rw (l, lt-ltb (length s) (length bs) (omega (arith, leb-false (0 + length bs) (length s) l))))

-- a part that has room is copied over the front
pub copied_front : (s t : List ℕ) (from n : ℕ) (bs : List ℕ) → from + n ≤ length t → n ≤ length s → take n (drop from t) ≡ bs → copied s 0 t from n ≡ copied_over bs s
copied_front s t from n bs h k e = copied_there s 0 t from n h (omega arith) ∙ ap (put s 0) e ∙ put_front s bs

-- ## What of a part stands in t, by a place and a length inside it

drop_inside : (at : ℕ) (t : List ℕ) → drop (min at (length t)) t ≡ drop at t
drop_inside at t =
    by_test (leb at (length t))
    (λ l. let h = leb-true at (length t) l in let e : min at (length t) ≡ at = omega arith in ap (λ (k : ℕ). drop k t) e)
    (λ l.
    let h = leb-false at (length t) l in
    let e : min at (length t) ≡ length t = omega arith in
    ap (λ (k : ℕ). drop k t) e ∙ drop_of_length-le t (omega arith) ∙ sym (drop_of_length-le t (omega arith)))

pub part_inside : (n at : ℕ) (t : List ℕ) → take n (drop at t) ≡ take (min n (length t - min at (length t))) (drop (min at (length t)) t)
part_inside n at t =
    let l : length t - min at (length t) ≡ length (drop at t) = omega (arith, length-drop at t) in
    sym (ap (λ (k : ℕ). take (min n k) (drop (min at (length t)) t)) l ∙ ap (take (min n (length (drop at t)))) (drop_inside at t) ∙ take_min n (drop at t))

-- copied to the front, it stands over what was there, where it has room
pub copied_inside : (s t : List ℕ) (from n : ℕ) → from + n ≤ length t → copied s 0 t from n ≡ cond (too_short (length s) (take n (drop from t))) s (copied_over (take n (drop from t)) s)
copied_inside s t from n h = copied_placed s 0 t from n h ∙ placed_front s (take n (drop from t))
