-- How many entries a table holds: as many as it says in a whole table, and none in a shorter slice.
use Rattle.std.proofs.Common.{◌≡◌, ℕ, ◌<◌, ◌≤◌, min, leb, List, length, arith, le-leb, leb-true}
use Rattle.std.proofs.lemmas.Bool.{lt-leb}
use Rattle.model.proofs.Facts.{by_test}
use Rattle.word.specs.Place.{byte_at}
use Rattle.table.specs.Layout.{table_size, zone_count_place, window_count_place, count_in, zone_count, window_count}

module _ (place most : ℕ) (s : List ℕ) where
  pub count_whole : table_size ≤ length s → count_in place most s ≡ min (byte_at s place) most
  count_whole h = rw (le-leb table_size (length s) h)

  pub count_short : length s < table_size → count_in place most s ≡ 0
  count_short h = rw (lt-leb table_size (length s) h)

  -- there are no more than there are places
  pub count_most : count_in place most s ≤ most
  count_most = by_test (leb table_size (length s)) (λ e. rw e (omega arith)) (λ e. rw e (omega arith))

  -- where there is an entry, the slice is a whole table
  pub some_there : (i : ℕ) → i < count_in place most s → table_size ≤ length s
  some_there i h =
      by_test (leb table_size (length s)) (leb-true table_size (length s)) (λ e. let z : i < 0 = rw e at h in absurd (omega arith))

-- so each entry that is there stands in its place
module _ (s : List ℕ) (i : ℕ) where
  abbrev pub ZoneStands : Type 0
  ZoneStands = (i < 8) × (table_size ≤ length s)

  abbrev pub WindowStands : Type 0
  WindowStands = (i < 16) × (table_size ≤ length s)

  pub zone_stands : i < zone_count s → ZoneStands
  zone_stands h = (omega (arith, count_most zone_count_place 8 s), some_there zone_count_place 8 s i h)

  pub window_stands : i < window_count s → WindowStands
  window_stands h = (omega (arith, count_most window_count_place 16 s), some_there window_count_place 16 s i h)
