-- The places in use: chunks of one size from the first place on, as many as there are entries.
use Rattle.std.specs.Simd.{first_chunks}
use Rattle.std.proofs.Common.{◌≡◌, ℕ, zero, suc, ◌+◌, ◌-◌, ◌*◌, ◌/◌, ◌<◌, ◌≤◌, List, [], ◌∷◌, length, slice_range, take, drop, refl, sym, ap, ◌∙◌, arith, drop-drop, map, min, not, cond, ◌==◌, get_or-take, get_or-drop, length-drop, length-take-le, le-leb, None, Some}
use Rattle.std.proofs.lemmas.List.{take-take, drop-take}
use Rattle.model.specs.Bytes.{number, signed}
use Rattle.word.specs.Place.{byte_at, word_at}
use Rattle.table.specs.Layout.{mark_at, name_at, zone_at, window_at, zone_place, window_place, zone_count_place, window_count_place, entries_from, zone_count, window_count, zone_places, window_places, zones_in, windows_in}
use Rattle.table.specs.Laws.{ZonePlacesAre, WindowPlacesAre, ListsByPlaces}
use Rattle.table.proofs.Counts.{count_short, count_most, zone_stands, window_stands}
use Rattle.table.proofs.Parts.{zone_parts, window_parts}
use Rattle.table.proofs.Sections.{length_entries, entry_is}

module _ (size : ℕ) where
  -- the first of some chunks
  take_chunks : (n more : ℕ) (s : List ℕ) → take n (first_chunks size (n + more) s) ≡ first_chunks size n s
  take_chunks zero more s = refl
  take_chunks (suc n) more s =
      let e : suc n + more ≡ suc (n + more) = omega arith in
      rw e (ap (λ l. take size s ∷ l) (take_chunks n more (drop size s)))

  -- chunks of a part that holds them all
  chunks_take : (n more : ℕ) (s : List ℕ) → first_chunks size n (take (n * size + more) s) ≡ first_chunks size n s
  chunks_take zero more s = refl
  chunks_take (suc n) more s =
      let m = n * size + more in
      let e : suc n * size + more ≡ size + m = omega arith in
      rw e
      (ap (λ l. l ∷ first_chunks size n (drop size (take (size + m) s))) (take-take size (size + m) s (omega arith))
      ∙ ap (λ l. take size s ∷ l) (ap (first_chunks size n) (drop-take size m s) ∙ chunks_take n more (drop size s)))

  -- chunks by their places
  chunks_placed : (from : ℕ) (s : List ℕ) (i n : ℕ) → first_chunks size n (drop (from + size * i) s) ≡ entries_from (λ j. take size (drop (from + size * j) s)) i n
  unfolding entries_from
  chunks_placed from s i zero = refl
  chunks_placed from s i (suc n) =
      let e : from + size * i + size ≡ from + size * suc i = omega arith in
      ap (λ l. take size (drop (from + size * i) s) ∷ l)
      (ap (first_chunks size n) (drop-drop size (from + size * i) s ∙ ap (λ k. drop k s) e) ∙ chunks_placed from s (suc i) n)

  -- the first n chunks of a part that begins at `from`
  in_use : (from n more : ℕ) (s : List ℕ)
      → take n (first_chunks size (n + more) (take ((n + more) * size) (drop from s))) ≡ entries_from (λ j. take size (drop (from + size * j) s)) 0 n
  in_use from n more s =
      let e : (n + more) * size ≡ n * size + more * size = omega arith in
      let z : from ≡ from + size * 0 = omega arith in
      take_chunks n more (take ((n + more) * size) (drop from s))
      ∙ ap (λ k. first_chunks size n (take k (drop from s))) e ∙ chunks_take n (more * size) (drop from s)
      ∙ ap (λ k. first_chunks size n (drop k s)) z ∙ chunks_placed from s 0 n

  used : (from most n : ℕ) (s part : List ℕ) → part ≡ take (most * size) (drop from s) → n ≤ most
      → take n (first_chunks size most part) ≡ entries_from (λ j. take size (drop (from + size * j) s)) 0 n
  used from most n s part e h =
      let m : most ≡ n + (most - n) = omega arith in
      ap (λ p. take n (first_chunks size most p)) e ∙ ap (λ k. take n (first_chunks size k (take (k * size) (drop from s)))) m ∙ in_use from n (most - n) s

module _ (s part : List ℕ) (chunks : List (List ℕ)) (n : ℕ) where
  -- the places of zones and windows in a whole table
  pub zones_used : part ≡ slice_range s 16 656 → length part + 16 ≡ 656 → n ≡ zone_count s → chunks ≡ first_chunks 80 (length part / 80) part
      → take n chunks ≡ zone_places s
  unfolding zone_places
  zones_used p l e c =
      let long : length part ≡ 640 = omega arith in
      let few : n ≤ 8 = omega (arith, count_most zone_count_place 8 s) in
      ap (take n) (c ∙ ap (λ k. first_chunks 80 (k / 80) part) long) ∙ used 80 16 8 n s part p few
      ∙ ap (entries_from (λ j. take 80 (drop (16 + 80 * j) s)) 0) e

  pub windows_used : part ≡ slice_range s 656 1040 → length part + 656 ≡ 1040 → n ≡ window_count s → chunks ≡ first_chunks 24 (length part / 24) part
      → take n chunks ≡ window_places s
  unfolding window_places
  windows_used p l e c =
      let long : length part ≡ 384 = omega arith in
      let few : n ≤ 16 = omega (arith, count_most window_count_place 16 s) in
      ap (take n) (c ∙ ap (λ k. first_chunks 24 (k / 24) part) long) ∙ used 24 656 16 n s part p few
      ∙ ap (entries_from (λ j. take 24 (drop (656 + 24 * j) s)) 0) e

-- none in a shorter slice
pub no_zones : (s : List ℕ) → length s < 656 → [] ≡ zone_places s
unfolding zone_places entries_from
no_zones s h = ap (entries_from (λ i. take 80 (drop (16 + 80 * i) s)) 0) (sym (count_short zone_count_place 8 s (omega arith)))

pub no_windows : (s : List ℕ) → length s < 1040 → [] ≡ window_places s
unfolding window_places entries_from
no_windows s h = ap (entries_from (λ i. take 24 (drop (656 + 24 * i) s)) 0) (sym (count_short window_count_place 16 s h))

-- ## One place in use for each entry, and the lists by the bytes of the places

pub zone_places_are : ZonePlacesAre
unfolding zone_places
zone_places_are s = let f = λ (i : ℕ). take 80 (drop (zone_place i) s) in record { number = length_entries f 0 (zone_count s); each = entry_is f (zone_count s) }

pub window_places_are : WindowPlacesAre
unfolding window_places
window_places_are s =
    let f = λ (i : ℕ). take 24 (drop (window_place i) s) in record { number = length_entries f 0 (window_count s); each = entry_is f (window_count s) }

module _ {A B : Type 0} (g : A → B) (f : ℕ → A) (h : ℕ → B) where
  -- entries that are equal one by one
  mapped : (i n : ℕ) → ((j : ℕ) → j < i + n → h j ≡ g (f j)) → entries_from h i n ≡ map g (entries_from f i n)
  unfolding entries_from
  mapped i zero e = refl
  mapped i (suc n) e =
      ap (λ x. x ∷ entries_from h (suc i) n) (e i (omega arith)) ∙ ap (λ l. g (f i) ∷ l) (mapped (suc i) n (λ j k. e j (omega arith)))

-- what is read at a place is read in the bytes of the place
module _ (s : List ℕ) (n p : ℕ) (h : p + n ≤ length s) where
  pub byte_in : (at : ℕ) → at < n → byte_at s (p + at) ≡ byte_at (take n (drop p s)) at
  byte_in at k = sym (get_or-take n (drop p s) at 0 k ∙ get_or-drop p s at 0)

  part_in : (w at : ℕ) → at + w ≤ n → take w (drop (p + at) s) ≡ take w (drop at (take n (drop p s)))
  part_in w at k =
      let m = n - at in
      let e : n ≡ at + m = omega arith in
      sym (ap (λ i. take w (drop at (take i (drop p s)))) e ∙ ap (take w) (drop-take at m (drop p s)) ∙ take-take w m (drop at (drop p s)) (omega arith) ∙ ap (take w) (drop-drop at p s))

  word_in : (w at : ℕ) → at + w ≤ n → word_at w s (p + at) ≡ word_at w (take n (drop p s)) at
  unfolding word_at
  word_in w at k =
      let l = length-take-le n (drop p s) (omega (arith, length-drop p s)) in
      rw (le-leb (p + at + w) (length s) (omega arith), le-leb (at + w) (length (take n (drop p s))) (omega arith)) (ap number (part_in w at k))

-- the zone and the window at a place
pub zone_in_place : (s : List ℕ) (p : ℕ) → p + 80 ≤ length s → zone_at s p ≡ zone_at (take 80 (drop p s)) 0
zone_in_place s p h =
    let e : p ≡ p + 0 = omega arith in
    let b = byte_in s 80 p h in
    zone_parts (ap (λ k. signed (word_at 4 s k)) e ∙ ap signed (word_in s 80 p h 4 0 (omega arith))) (word_in s 80 p h 8 4 (omega arith))
    (ap (λ k. cond (not (k == 0)) (Some (name_at s p)) None) (b 12 (omega arith))
    ∙ ap (λ k. cond (mark_at (take 80 (drop p s)) 12) (Some (take (min k 64) (drop (p + 14) s))) None) (b 13 (omega arith))
    ∙ ap (λ l. cond (mark_at (take 80 (drop p s)) 12) (Some l) None) (part_in s 80 p h (min (byte_at (take 80 (drop p s)) 13) 64) 14 (omega arith)))

pub window_in_place : (s : List ℕ) (p : ℕ) → p + 24 ≤ length s → window_at s p ≡ window_at (take 24 (drop p s)) 0
window_in_place s p h =
    let e : p ≡ p + 0 = omega arith in
    window_parts (ap (λ k. signed (word_at 4 s k)) e ∙ ap signed (word_in s 24 p h 4 0 (omega arith))) (word_in s 24 p h 8 4 (omega arith))
    (ap (λ k. cond (not (k == 0)) (Some (word_at 8 s (p + 13))) None) (byte_in s 24 p h 12 (omega arith))
    ∙ ap (λ k. cond (mark_at (take 24 (drop p s)) 12) (Some k) None) (word_in s 24 p h 8 13 (omega arith)))

pub lists_by_places : ListsByPlaces
unfolding zones_in windows_in zone_places window_places
lists_by_places s = record {
  zones = mapped (λ p. zone_at p 0) (λ i. take 80 (drop (zone_place i) s)) (λ i. zone_at s (zone_place i)) 0 (zone_count s) (λ j k. zone_in_place s (zone_place j) (let l = zone_stands s j (omega arith) in omega (arith, l.0, l.1)));
  windows = mapped (λ p. window_at p 0) (λ i. take 24 (drop (window_place i) s)) (λ i. window_at s (window_place i)) 0 (window_count s) (λ j k. window_in_place s (window_place j) (let l = window_stands s j (omega arith) in omega (arith, l.0, l.1)));
}
