-- The lists of a table, written: they read back, and nothing else is another.
use Rattle.std.proofs.Common.{◌≡◌, ℕ, suc, ◌+◌, ◌<◌, ◌≤◌, List, [], ◌∷◌, length, ap, ◌∙◌, arith}
use Rattle.model.specs.Basics.{All}
use Rattle.model.specs.Lists.{Zone, Window}
use Rattle.model.specs.Bytes.{zone_bytes, window_bytes}
use Rattle.model.specs.RoundTrip.{ZoneFits, WindowFits}
use Rattle.model.proofs.Facts.{All-map}
use Rattle.word.specs.Place.{byte_at, placed}
use Rattle.table.specs.Layout.{table_size, zone_count_place, window_count_place, generation_place, zone_place, window_place, zone_at, window_at, entries_from, count_in, put_entries, zones_in, windows_in, with_zones, with_windows}
use Rattle.table.specs.Laws.{NamesRoom, ZonesWritten, WindowsWritten}
use Rattle.word.proofs.Frame.{length_placed, byte_in}
use Rattle.table.proofs.Counts.{count_whole, count_most}
use Rattle.table.proofs.Alike.{Alike, narrower, then_alike, same_byte, alike_before, alike_after, entries_before, entries_after, same_entries, entries_back}
use Rattle.table.proofs.Back.{ZoneGood, zone_local, zone_short, zone_back, window_local, window_short, window_back}

-- ## A list of at most n entries behind its count

module _ {A : Type 0} (count n size : ℕ) (place : ℕ → ℕ) (read_at : List ℕ → ℕ → A)
    (local : (s t : List ℕ) (p : ℕ) → Alike p (p + size) s t → read_at t p ≡ read_at s p) where
  abbrev list_in : List ℕ → List A
  list_in s = entries_from (λ i. read_at s (place i)) 0 (count_in count n s)

  -- the same byte in a slice as long counts as many
  same_count : (s t : List ℕ) → Alike count (count + 1) s t → count_in count n t ≡ count_in count n s
  same_count s t c = rw (c.long, same_byte c count (omega arith) (omega arith))

  -- the same count and the same bytes in all places are the same list
  same_list : (s t : List ℕ) (first last : ℕ) → Alike count (count + 1) s t → Alike first last s t
      → ((j : ℕ) → j < n → (first ≤ place j) × (place j + size ≤ last)) → list_in t ≡ list_in s
  same_list s t first last c a inside =
      ap (entries_from (λ i. read_at t (place i)) 0) (same_count s t c)
      ∙ same_entries (λ i. read_at t (place i)) (λ i. read_at s (place i)) n 0 (count_in count n s)
      (λ j h. local s t (place j) (narrower a (place j) (place j + size) (inside j h).0 (inside j h).1)) (omega (arith, count_most count n s))

  module _ (entry_bytes : A → List ℕ) (s : List ℕ) (xs : List A) where
    -- the count, and then the entries
    abbrev numbered : List ℕ
    numbered = placed s count (length xs ∷ [])

    abbrev written : List ℕ
    written = put_entries place entry_bytes numbered 0 xs

    -- in front of the count, between it and the entries, and behind them
    front : (p q : ℕ) → q ≤ count → ((j : ℕ) → q ≤ place j) → Alike p q s written
    front p q h k = then_alike (alike_before p q s count (length xs ∷ []) h) (entries_before p q place entry_bytes numbered 0 xs (λ j m. k j))

    between : (p q : ℕ) → count + 1 ≤ p → ((j : ℕ) → q ≤ place j) → Alike p q s written
    between p q h k = then_alike (alike_after p q s count (length xs ∷ []) (omega arith)) (entries_before p q place entry_bytes numbered 0 xs (λ j m. k j))

    behind : (p q : ℕ) → count + 1 ≤ p → length xs ≤ n → All (λ x. length (entry_bytes x) ≤ size) xs → ((j : ℕ) → j < n → place j + size ≤ p) → Alike p q s written
    behind p q h few short k = then_alike (alike_after p q s count (length xs ∷ []) (omega arith)) (entries_after p q place entry_bytes numbered 0 n size xs (omega arith) short k)

    count_back : count + 1 ≤ length s → ((j : ℕ) → count + 1 ≤ place j) → byte_at written count ≡ length xs
    count_back h k =
        same_byte (entries_before count (count + 1) place entry_bytes numbered 0 xs (λ j m. k j)) count (omega arith) (omega arith)
        ∙ byte_in s count (length xs ∷ []) (omega arith) count 0 (omega arith) (omega arith)

    list_back : (Good : A → Type 0) → ((x : A) → Good x → length (entry_bytes x) ≤ size)
        → ((s : List ℕ) (p : ℕ) (x : A) → Good x → p + length (entry_bytes x) ≤ length s → read_at (placed s p (entry_bytes x)) p ≡ x)
        → ((i j : ℕ) → suc i ≤ j → place i + size ≤ place j) → table_size ≤ length s → count + 1 ≤ length s → ((j : ℕ) → count + 1 ≤ place j)
        → ((j : ℕ) → j < n → place j + size ≤ length s) → length xs ≤ n → All Good xs → list_in written ≡ xs
    list_back Good short back apart all h k inside few each =
        let l = length_placed s count (length xs ∷ []) in
        let w = front 0 0 (omega arith) (λ j. omega arith) in
        let e : count_in count n written ≡ length xs = omega (arith, count_whole count n written (omega (arith, w.long)), count_back h k) in
        ap (entries_from (λ i. read_at written (place i)) 0) e
        ∙ entries_back place entry_bytes read_at size Good local short back apart numbered 0 n xs each (omega arith) (λ j m. omega (arith, inside j m, l))

-- ## The lists of a table

module _ (s t : List ℕ) where
  pub same_zones : Alike zone_count_place window_count_place s t → Alike 16 656 s t → zones_in t ≡ zones_in s
  unfolding zones_in
  same_zones c a = same_list zone_count_place 8 78 zone_place zone_at zone_local s t 16 656 c a (λ j h. (omega arith, omega arith))

  pub same_windows : Alike window_count_place generation_place s t → Alike 656 table_size s t → windows_in t ≡ windows_in s
  unfolding windows_in
  same_windows c a = same_list window_count_place 16 21 window_place window_at window_local s t 656 table_size c a (λ j h. (omega arith, omega arith))

module _ (s : List ℕ) (zs : List Zone) where
  pub zones_front : (p q : ℕ) → q ≤ zone_count_place → Alike p q s (with_zones s zs)
  unfolding with_zones
  zones_front p q h = front zone_count_place 8 78 zone_place zone_at zone_local zone_bytes s zs p q h (λ j. omega arith)

  pub zones_between : (p q : ℕ) → window_count_place ≤ p → q ≤ 16 → Alike p q s (with_zones s zs)
  unfolding with_zones
  zones_between p q h k = between zone_count_place 8 78 zone_place zone_at zone_local zone_bytes s zs p q h (λ j. omega arith)

module _ (s : List ℕ) (ws : List Window) where
  pub windows_front : (p q : ℕ) → q ≤ window_count_place → Alike p q s (with_windows s ws)
  unfolding with_windows
  windows_front p q h = front window_count_place 16 21 window_place window_at window_local window_bytes s ws p q h (λ j. omega arith)

  pub windows_between : (p q : ℕ) → generation_place ≤ p → q ≤ 656 → Alike p q s (with_windows s ws)
  unfolding with_windows
  windows_between p q h k = between window_count_place 16 21 window_place window_at window_local window_bytes s ws p q h (λ j. omega arith)

-- ## The lists read back

-- zones whose names have room
good : (zs : List Zone) → All ZoneFits zs → NamesRoom zs → All ZoneGood zs
good [] f r = tt
good (z ∷ zs) f r = (record { fits = f.0; room = r.0 }, good zs f.1 r.1)

pub zones_written : ZonesWritten
unfolding with_zones zones_in
zones_written s zs h few f r =
    let each = good zs f.each r in
    let b = behind zone_count_place 8 78 zone_place zone_at zone_local zone_bytes s zs 656 table_size (omega arith) few (All-map zone_short zs each) (λ j k. omega arith) in
    record {
      zones =
          list_back zone_count_place 8 78 zone_place zone_at zone_local zone_bytes s zs ZoneGood zone_short zone_back (λ i j k. omega arith) h (omega arith) (λ j. omega arith) (λ j k. omega arith)
          few each;
      windows = same_windows s (with_zones s zs) (zones_between s zs window_count_place generation_place (omega arith) (omega arith)) b;
      long = b.long;
    }

pub windows_written : WindowsWritten
unfolding with_windows windows_in
windows_written s ws h few f =
    let b = windows_between s ws 16 656 (omega arith) (omega arith) in
    record {
      windows =
          list_back window_count_place 16 21 window_place window_at window_local window_bytes s ws WindowFits window_short window_back (λ i j k. omega arith) h (omega arith) (λ j. omega arith)
          (λ j k. omega arith) few f.each;
      zones = same_zones s (with_windows s ws) (windows_front s ws zone_count_place window_count_place (omega arith)) b;
      long = b.long;
    }
