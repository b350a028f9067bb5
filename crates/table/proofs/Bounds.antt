-- The record of a table has at most 962 bytes.
use Rattle.std.specs.Prelude.{None, Some}
use Rattle.std.proofs.Common.{◌≡◌, ℕ, zero, suc, ◌+◌, ◌*◌, ◌≤◌, ◌==◌, min, Bool, true, false, not, cond, List, ◌++◌, length, drop, arith, length-append, length-drop, length-take}
use Rattle.model.specs.Bytes.{bytes, bits_of, signed, name_bytes, until_bytes, zone_bytes, window_bytes, all_bytes, zones_bytes, windows_bytes, record_bytes}
use Rattle.model.proofs.Words.{length_bytes}
use Rattle.word.specs.Place.{byte_at, word_at}
use Rattle.table.specs.Layout.{mark_at, name_at, zone_at, window_at, zone_count_place, window_count_place, zone_place, window_place, entries_from, zone_count, window_count, zones_in, windows_in, lists_in}
use Rattle.table.proofs.Counts.{count_most}
use Rattle.table.specs.Held.{zone_length_at, window_length_at}
use Rattle.table.proofs.Parts.{entry_long}

zone_most : (s : List ℕ) (p : ℕ) → length (zone_bytes (zone_at s p)) ≤ 78
zone_most s p = go (mark_at s (p + 12))
  where
    go : (b : Bool) → length (bytes 4 (bits_of (signed (word_at 4 s p))) ++ (bytes 8 (word_at 8 s (p + 4)) ++ name_bytes (cond b (Some (name_at s p)) None))) ≤ 78
    go true = omega (arith, entry_long (bits_of (signed (word_at 4 s p))) (word_at 8 s (p + 4)) (name_bytes (Some (name_at s p))), length-take (min (byte_at s (p + 13)) 64) (drop (p + 14) s))
    go false = omega (arith, entry_long (bits_of (signed (word_at 4 s p))) (word_at 8 s (p + 4)) (name_bytes None))

window_most : (s : List ℕ) (p : ℕ) → length (window_bytes (window_at s p)) ≤ 21
window_most s p = go (mark_at s (p + 12))
  where
    go : (b : Bool) → length (bytes 4 (bits_of (signed (word_at 4 s p))) ++ (bytes 8 (word_at 8 s (p + 4)) ++ until_bytes (cond b (Some (word_at 8 s (p + 13))) None))) ≤ 21
    go true = omega (arith, entry_long (bits_of (signed (word_at 4 s p))) (word_at 8 s (p + 4)) (until_bytes (Some (word_at 8 s (p + 13)))), length_bytes 8 (word_at 8 s (p + 13)))
    go false = omega (arith, entry_long (bits_of (signed (word_at 4 s p))) (word_at 8 s (p + 4)) (until_bytes None))

all_most : {A : Type 0} (f : ℕ → A) (entry_bytes : A → List ℕ) (most : ℕ) → ((i : ℕ) → length (entry_bytes (f i)) ≤ most) → (i n : ℕ) → length (all_bytes entry_bytes (entries_from f i n)) ≤ most * n
unfolding all_bytes entries_from
all_most f entry_bytes most h i zero = omega arith
all_most f entry_bytes most h i (suc n) = omega (arith, length-append (entry_bytes (f i)) (all_bytes entry_bytes (entries_from f (suc i) n)), h i, all_most f entry_bytes most h (suc i) n)

module _ (s : List ℕ) where
  pub zones_most : length (zones_bytes (zones_in s)) ≤ 625
  unfolding zones_bytes zones_in
  zones_most = omega (arith, all_most (λ i. zone_at s (zone_place i)) zone_bytes 78 (λ i. zone_most s (zone_place i)) 0 (zone_count s), count_most zone_count_place 8 s)

  pub windows_most : length (windows_bytes (windows_in s)) ≤ 337
  unfolding windows_bytes windows_in
  windows_most = omega (arith, all_most (λ i. window_at s (window_place i)) window_bytes 21 (λ i. window_most s (window_place i)) 0 (window_count s), count_most window_count_place 16 s)

  pub record_parts : length (record_bytes (lists_in s)) ≡ length (zones_bytes (zones_in s)) + length (windows_bytes (windows_in s))
  unfolding record_bytes
  record_parts = length-append (zones_bytes (zones_in s)) (windows_bytes (windows_in s))

  pub record_most_lem : length (record_bytes (lists_in s)) ≤ 962
  record_most_lem = omega (arith, record_parts, zones_most, windows_most)

-- how many bytes the entry in a place is written as
module _ (p : List ℕ) where
  pub zone_capped : length p ≡ 80 → min (zone_length_at p 0) 78 ≡ length (zone_bytes (zone_at p 0))
  unfolding zone_length_at
  zone_capped h = go (byte_at p 12 == 0)
    where
      o : ℕ
      o = bits_of (signed (word_at 4 p 0))

      go : (t : Bool) → min (cond t 13 (14 + byte_at p 13)) 78 ≡ length (bytes 4 o ++ (bytes 8 (word_at 8 p 4) ++ name_bytes (cond (not t) (Some (name_at p 0)) None)))
      go true = omega (arith, entry_long o (word_at 8 p 4) (name_bytes None))
      go false = omega (arith, entry_long o (word_at 8 p 4) (name_bytes (Some (name_at p 0))), length-take (min (byte_at p 13) 64) (drop 14 p), length-drop 14 p)

  pub window_whole : window_length_at p 0 ≡ length (window_bytes (window_at p 0))
  unfolding window_length_at
  window_whole = go (byte_at p 12 == 0)
    where
      o : ℕ
      o = bits_of (signed (word_at 4 p 0))

      go : (t : Bool) → cond t 13 21 ≡ length (bytes 4 o ++ (bytes 8 (word_at 8 p 4) ++ until_bytes (cond (not t) (Some (word_at 8 p 13)) None)))
      go true = omega (arith, entry_long o (word_at 8 p 4) (until_bytes None))
      go false = omega (arith, entry_long o (word_at 8 p 4) (until_bytes (Some (word_at 8 p 13))), length_bytes 8 (word_at 8 p 13))
