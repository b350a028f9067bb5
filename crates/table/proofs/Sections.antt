-- Entries by their index, and a section written entry by entry.
use Rattle.std.proofs.Common.{◌≡◌, ℕ, zero, suc, ◌+◌, ◌<◌, ◌≤◌, List, ◌∷◌, ◌++◌, length, get_or, take, drop, set, sym, refl, ap, ◌∙◌, arith, length-append, take-append-drop, take_all}
use Rattle.model.specs.Bytes.{all_bytes}
use Rattle.word.specs.Place.{put}
use Rattle.word.proofs.Writes.{all_append, all_more, Wrote, wrote_none, wrote_put, wrote_byte, wrote_as, same_length}
use Rattle.table.specs.Layout.{entries_from}

module _ {A : Type 0} (f : ℕ → A) where
  pub length_entries : (i n : ℕ) → length (entries_from f i n) ≡ n
  unfolding entries_from
  length_entries i zero = refl
  length_entries i (suc n) = ap suc (length_entries (suc i) n)

  entry_from : (j n i : ℕ) (d : A) → i < n → get_or (entries_from f j n) i d ≡ f (j + i)
  unfolding entries_from
  entry_from j zero i d h = absurd (omega arith)
  entry_from j (suc n) zero d h = let e : j ≡ j + 0 = omega arith in ap f e
  entry_from j (suc n) (suc i) d h = let e : suc j + i ≡ j + suc i = omega arith in entry_from (suc j) n i d (omega arith) ∙ ap f e

  pub entry_is : (n i : ℕ) (d : A) → i < n → get_or (entries_from f 0 n) i d ≡ f i
  entry_is n i d h = let e : 0 + i ≡ i = omega arith in entry_from 0 n i d h ∙ ap f e

-- the first entries have no more bytes than all of them
module _ {A : Type 0} (entry_bytes : A → List ℕ) where
  pub front_short : (i : ℕ) (l : List A) → length (all_bytes entry_bytes (take i l)) ≤ length (all_bytes entry_bytes l)
  front_short i l =
      let e : all_bytes entry_bytes l ≡ all_bytes entry_bytes (take i l) ++ all_bytes entry_bytes (drop i l)
      = ap (all_bytes entry_bytes) (sym (take-append-drop i l)) ∙ all_append entry_bytes (take i l) (drop i l) in
      omega (arith, ap length e, length-append (all_bytes entry_bytes (take i l)) (all_bytes entry_bytes (drop i l)))

-- how many there are and the first `i` entries of `l` stand from `at` on, and the next one goes to `next`
module _ {B : Type 0} (entry_bytes : B → List ℕ) (l : List B) (s : List ℕ) (at : ℕ) where
  pub record Going (i : ℕ) (out : List ℕ) (next : ℕ) : Type 0 where
    pub wrote : Wrote s at (length l ∷ all_bytes entry_bytes (take i l)) out
    pub place : next ≡ at + 1 + length (all_bytes entry_bytes (take i l))

  pub going_start : at < length s → Going 0 (set s at (length l)) (at + 1)
  unfolding all_bytes
  going_start h = record { wrote = wrote_byte (wrote_none (omega arith)) (length l) at (set s at (length l)) (omega arith) h refl; place = omega arith }

module _ {B : Type 0} {entry_bytes : B → List ℕ} {l : List B} {s : List ℕ} {at i : ℕ} {out : List ℕ} {next : ℕ} (w : Going entry_bytes l s at i out next) where
  module _ (r : at + length (length l ∷ all_bytes entry_bytes l) ≤ length s) (h : i < length l) (e : B) (g : e ≡ get_or l i e) where
    more : all_bytes entry_bytes (take i l) ++ entry_bytes e ≡ all_bytes entry_bytes (take (i + 1) l)
    more = ap (λ (x : B). all_bytes entry_bytes (take i l) ++ entry_bytes x) g ∙ sym (all_more entry_bytes l i e h)

    -- there is room for the next entry where there is room for all
    pub next_room : next + length (entry_bytes e) ≤ length out
    next_room = omega (arith, w.place, same_length w.wrote, ap length more, length-append (all_bytes entry_bytes (take i l)) (entry_bytes e), front_short entry_bytes (i + 1) l)

    pub going_more : (out' : List ℕ) (next' : ℕ) → out' ≡ put out next (entry_bytes e) → next' ≡ next + length (entry_bytes e) → Going entry_bytes l s at (i + 1) out' next'
    going_more out' next' q p =
        record {
          wrote = wrote_as (wrote_put w.wrote (entry_bytes e) next out' (omega (arith, w.place)) (omega (arith, next_room, same_length w.wrote)) q) _ (ap (λ (bs : List ℕ). length l ∷ bs) more);
          place = omega (arith, w.place, length-append (all_bytes entry_bytes (take i l)) (entry_bytes e), ap length more);
        }

  pub going_end : length l ≤ i → (out ≡ put s at (length l ∷ all_bytes entry_bytes l)) × (next ≡ at + length (length l ∷ all_bytes entry_bytes l))
  going_end f =
      let all : all_bytes entry_bytes (take i l) ≡ all_bytes entry_bytes l = ap (all_bytes entry_bytes) (take_all i l f) in
      (w.wrote.is ∙ ap (λ (bs : List ℕ). put s at (length l ∷ bs)) all, omega (arith, w.place, ap length all))
