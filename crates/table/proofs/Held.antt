-- An entry that stands at a place as it is written: how long it is, and where the next one stands.
use Rattle.std.specs.Prelude.{Option, None, Some}
use Rattle.std.proofs.Common.{◌≡◌, ℕ, suc, ◌+◌, ◌≤◌, cond, eqb, List, [], ◌∷◌, ◌++◌, map, length, get_or, take, drop, refl, sym, ap, subst, ◌∙◌, append_assoc, arith, length-append, length-drop, get_or-drop, drop-drop, take_at, drop_at, eq-eqb, ne_eqb}
use Rattle.model.specs.Lists.{Name, Zone, Window}
use Rattle.model.specs.Bytes.{bytes, bits_of, name_bytes, until_bytes, zone_bytes, window_bytes, all_bytes}
use Rattle.model.proofs.Words.{length_bytes}
use Rattle.word.specs.Place.{byte_at, placed}
use Rattle.table.specs.Layout.{zone_count_place, window_count_place, zone_place, window_place, put_entries, with_zones, with_windows}
use Rattle.table.specs.Held.{zone_length_at, window_length_at, Held, Whole, parts_from, end_of}
use Rattle.table.proofs.Parts.{entry_long}

-- ## One entry

module _ (s : List ℕ) (at o t : ℕ) (tail rest : List ℕ) (e : drop at s ≡ (bytes 4 o ++ (bytes 8 t ++ tail)) ++ rest) where
  -- behind offset and start
  from_mark : drop 12 ((bytes 4 o ++ (bytes 8 t ++ tail)) ++ rest) ≡ tail ++ rest
  from_mark =
      let q : (bytes 4 o ++ (bytes 8 t ++ tail)) ++ rest ≡ (bytes 4 o ++ bytes 8 t) ++ (tail ++ rest) = simp append_assoc in
      ap (drop 12) q ∙ drop_at (bytes 4 o ++ bytes 8 t) (tail ++ rest) 12 (omega (arith, length-append (bytes 4 o) (bytes 8 t), length_bytes 4 o, length_bytes 8 t))

  byte_behind : (k : ℕ) → byte_at s (at + (12 + k)) ≡ get_or (tail ++ rest) k 0
  byte_behind k =
      sym (get_or-drop at s (12 + k) 0) ∙ ap (λ (l : List ℕ). get_or l (12 + k) 0) e ∙ sym (get_or-drop 12 ((bytes 4 o ++ (bytes 8 t ++ tail)) ++ rest) k 0) ∙ ap (λ (l : List ℕ). get_or l k 0) from_mark

  pub mark_byte : byte_at s (at + 12) ≡ get_or (tail ++ rest) 0 0
  mark_byte = byte_behind 0

  pub next_byte : byte_at s (at + 13) ≡ get_or (tail ++ rest) 1 0
  next_byte = byte_behind 1

pub zone_long : (s : List ℕ) (at : ℕ) (z : Zone) (rest : List ℕ) → drop at s ≡ zone_bytes z ++ rest → zone_length_at s at ≡ length (zone_bytes z)
unfolding zone_length_at
zone_long s at z rest e = go z.name e
  where
    o : ℕ
    o = bits_of z.offset

    go : (n : Option Name) → drop at s ≡ (bytes 4 o ++ (bytes 8 z.start ++ name_bytes n)) ++ rest
        → cond (eqb (byte_at s (at + 12)) 0) 13 (14 + byte_at s (at + 13)) ≡ length (bytes 4 o ++ (bytes 8 z.start ++ name_bytes n))
    go None h =
        let m = mark_byte s at o z.start (0 ∷ []) rest h in
        rw (eq-eqb (byte_at s (at + 12)) 0 m) (sym (entry_long o z.start (0 ∷ [])))
    go (Some n) h =
        let m = mark_byte s at o z.start (name_bytes (Some n)) rest h in
        let k = next_byte s at o z.start (name_bytes (Some n)) rest h in
        let l = entry_long o z.start (name_bytes (Some n)) in
        rw (ne_eqb (byte_at s (at + 12)) 0 (λ q. omega (arith, m, q))) (omega (arith, k, l))

pub window_long : (s : List ℕ) (at : ℕ) (w : Window) (rest : List ℕ) → drop at s ≡ window_bytes w ++ rest → window_length_at s at ≡ length (window_bytes w)
unfolding window_length_at
window_long s at w rest e = go w.until e
  where
    o : ℕ
    o = bits_of w.offset

    go : (n : Option ℕ) → drop at s ≡ (bytes 4 o ++ (bytes 8 w.start ++ until_bytes n)) ++ rest
        → cond (eqb (byte_at s (at + 12)) 0) 13 21 ≡ length (bytes 4 o ++ (bytes 8 w.start ++ until_bytes n))
    go None h =
        let m = mark_byte s at o w.start (0 ∷ []) rest h in
        rw (eq-eqb (byte_at s (at + 12)) 0 m) (sym (entry_long o w.start (0 ∷ [])))
    go (Some n) h =
        let m = mark_byte s at o w.start (until_bytes (Some n)) rest h in
        let l = entry_long o w.start (until_bytes (Some n)) in
        rw (ne_eqb (byte_at s (at + 12)) 0 (λ q. omega (arith, m, q))) (omega (arith, length_bytes 8 n, l))

pub zone_least : (z : Zone) → 13 ≤ length (zone_bytes z)
zone_least z = omega (arith, entry_long (bits_of z.offset) z.start (name_bytes z.name), go z.name)
  where
    go : (n : Option Name) → 1 ≤ length (name_bytes n)
    go None = omega arith
    go (Some n) = omega arith

pub window_least : (w : Window) → 13 ≤ length (window_bytes w)
window_least w = omega (arith, entry_long (bits_of w.offset) w.start (until_bytes w.until), go w.until)
  where
    go : (n : Option ℕ) → 1 ≤ length (until_bytes n)
    go None = omega arith
    go (Some n) = omega arith

-- ## One entry after another

-- the bytes of entries, put to their places
pub by_bytes : {A : Type 0} (place : ℕ → ℕ) (entry_bytes : A → List ℕ) (s : List ℕ) (i : ℕ) (xs : List A)
    → put_entries place (λ bs. bs) s i (map entry_bytes xs) ≡ put_entries place entry_bytes s i xs
unfolding put_entries
by_bytes place entry_bytes s i [] = refl
by_bytes place entry_bytes s i (x ∷ xs) = by_bytes place entry_bytes (placed s (place i) (entry_bytes x)) (suc i) xs

module _ {A : Type 0} (entry_bytes : A → List ℕ) (length_at : List ℕ → ℕ → ℕ) (least : (x : A) → 13 ≤ length (entry_bytes x))
    (long : (s : List ℕ) (at : ℕ) (x : A) (rest : List ℕ) → drop at s ≡ entry_bytes x ++ rest → length_at s at ≡ length (entry_bytes x)) where
  pub record Standing (s : List ℕ) (at n : ℕ) (xs : List A) : Type 0 where
    pub whole : Whole length_at s at n
    pub parts : parts_from length_at s at n ≡ map entry_bytes xs
    pub end : end_of length_at s at n ≡ at + length (all_bytes entry_bytes xs)

  stand : (s : List ℕ) (at : ℕ) (xs : List A) (rest : List ℕ) → at ≤ length s → drop at s ≡ all_bytes entry_bytes xs ++ rest → Standing s at (length xs) xs
  unfolding all_bytes Whole parts_from end_of
  stand s at [] rest h e = record { whole = tt; parts = refl; end = omega arith }
  stand s at (x ∷ xs) rest h e =
      let left = all_bytes entry_bytes xs ++ rest in
      let q : drop at s ≡ entry_bytes x ++ left = e ∙ append_assoc (entry_bytes x) (all_bytes entry_bytes xs) rest in
      let m = long s at x left q in
      let k : length s ≡ at + (length (entry_bytes x) + length left) = omega (arith, h, length-drop at s, ap length q, length-append (entry_bytes x) left) in
      let next : drop (at + length_at s at) s ≡ left
      = sym (drop-drop (length_at s at) at s) ∙ ap (drop (length_at s at)) q ∙ drop_at (entry_bytes x) left (length_at s at) (sym m) in
      let then = stand s (at + length_at s at) xs rest (omega arith) next in
      let front : take (length_at s at) (drop at s) ≡ entry_bytes x
      = ap (take (length_at s at)) q ∙ take_at (entry_bytes x) left (length_at s at) (sym m) in
      record {
        whole = (omega (arith, least x), omega arith, then.whole);
        parts = ap (λ (bs : List ℕ). bs ∷ parts_from length_at s (at + length_at s at) (length xs)) front ∙ ap (λ (l : List (List ℕ)). entry_bytes x ∷ l) then.parts;
        end = omega (arith, then.end, length-append (entry_bytes x) (all_bytes entry_bytes xs));
      }

  pub standing : (s : List ℕ) (at n : ℕ) (xs : List A) → Held entry_bytes s at n xs → Standing s at n xs
  standing s at n xs h = subst (λ (k : ℕ). Standing s at k xs) h.number (stand s at xs h.rest h.within h.is)

module _ (s : List ℕ) (from n : ℕ) where
  module _ (xs : List Zone) (h : Held zone_bytes s from n xs) where
    zones_stand : Standing zone_bytes zone_length_at zone_least zone_long s from n xs
    zones_stand = standing zone_bytes zone_length_at zone_least zone_long s from n xs h

    pub zones_whole : Whole zone_length_at s from n
    zones_whole = zones_stand.whole

    pub zones_end : end_of zone_length_at s from n ≡ from + length (all_bytes zone_bytes xs)
    zones_end = zones_stand.end

    pub zones_copied : (t : List ℕ) → put_entries zone_place (λ bs. bs) (placed t zone_count_place (n ∷ [])) 0 (parts_from zone_length_at s from n) ≡ with_zones t xs
    unfolding with_zones
    zones_copied t = rw (zones_stand.parts, h.number) (by_bytes zone_place zone_bytes (placed t zone_count_place (n ∷ [])) 0 xs)

  module _ (xs : List Window) (h : Held window_bytes s from n xs) where
    windows_stand : Standing window_bytes window_length_at window_least window_long s from n xs
    windows_stand = standing window_bytes window_length_at window_least window_long s from n xs h

    pub windows_whole : Whole window_length_at s from n
    windows_whole = windows_stand.whole

    pub windows_copied : (t : List ℕ) → put_entries window_place (λ bs. bs) (placed t window_count_place (n ∷ [])) 0 (parts_from window_length_at s from n) ≡ with_windows t xs
    unfolding with_windows
    windows_copied t = rw (windows_stand.parts, h.number) (by_bytes window_place window_bytes (placed t window_count_place (n ∷ [])) 0 xs)
