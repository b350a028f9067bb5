-- What is shown and listed of a table is what is defined on its lists.
use Rattle.std.proofs.Common.{◌≡◌, refl, sym, ◌∙◌, ap, ℕ, zero, suc, ◌+◌, ◌≤◌, min, Bool, true, false, cond, ltb, eqb, List, length, take, drop, Option, option_map, leb, le-ltb, ne_eqb, arith, None, Some, slice_get}
use Rattle.model.specs.Basics.{keep, last}
use Rattle.model.specs.Lists.{Name, Zone}
use Rattle.model.specs.Lookups as L
use Rattle.model.proofs.Facts.{by_test}
use Rattle.record.specs.declared.NamePlace.{NamePlace}
use Rattle.word.specs.Place.{byte_at}
use Rattle.table.specs.Layout.{mark_at, zone_count_place, window_count_place, zone_place, window_place, zone_at, window_at, entries_from, zone_count, window_count, zones_in, windows_in}
use Rattle.table.proofs.Counts.{count_most}
use Rattle.table.proofs.Sections.{length_entries}
use Rattle.lookups.specs.Shown.{shown_at, shown_by, zone_indices, active_index, listed_of, zone_listed_in, window_listed_in}
use Rattle.lookups.specs.Laws.{zone_now_in, zone_in, zone_listed_of, ActiveShown, ZoneListedMeans, WindowListedMeans}
use Rattle.lookups.proofs.Entries.{listed, by_index}
use Rattle.lookups.proofs.Maps.{last_map, keep_map}

module _ (s : List ℕ) where
  -- the zone with an index
  abbrev zone : ℕ → Zone
  zone i = zone_at s (zone_place i)

  -- a name that is shown is the name in its place
  name_is : (b : Bool) (at n : ℕ) → option_map (λ (p : NamePlace). take p.len (drop p.at s)) (cond b (Some (record { at = at; len = n })) None) ≡ cond b (Some (take n (drop at s))) None
  name_is true at n = refl
  name_is false at n = refl

  zone_is : (i : ℕ) → zone_in s (shown_at s (zone_place i)) ≡ zone i
  zone_is i =
      let at = zone_place i in
      let named : Option Name → Zone = λ n. record { offset = (zone i).offset; start = (zone i).start; name = n } in
      ap named (name_is (mark_at s (at + 12)) (at + 14) (min (byte_at s (at + 13)) 64))

  -- ## The active zone

  shown_is : (o : Option ℕ) → zone_now_in s (shown_by s o) ≡ L.zone_now (option_map zone o)
  shown_is None = refl
  shown_is (Some i) = ap (λ z. L.zone_now (Some z)) (zone_is i)

  -- ## Listing

  listed_means : (i n : ℕ) → zone_listed_of s (listed_of s i n) ≡ slice_get (L.listed (entries_from zone 0 n)) i
  unfolding entries_from
  listed_means zero zero = refl
  listed_means (suc i) zero =
      let z : eqb (suc i) 0 ≡ false = ne_eqb (suc i) 0 (λ h. let z : ◌≡◌ {A = ℕ} (suc i) 0 = h in absurd (omega arith)) in
      rw (le-ltb (suc i) 0 (omega arith), z)
  listed_means i (suc n) =
      let z : eqb (suc n) 0 ≡ false = ne_eqb (suc n) 0 (λ h. let z : ◌≡◌ {A = ℕ} (suc n) 0 = h in absurd (omega arith)) in
      by_test (ltb i (suc n))
      (λ t. rw t (ap (λ (z : Zone). Some z) (zone_is i)))
      (λ t. rw (t, z) refl)
      ∙ sym (listed zone (suc n) i)

pub active_shown : ActiveShown
unfolding active_index zones_in L.active_zone
active_shown s now =
    let started = keep (λ i. leb (zone s i).start now) (zone_indices s) in
    shown_is s (last started)
    ∙ ap L.zone_now (sym (last_map (zone s) started))
    ∙ ap (λ (zs : List Zone). L.zone_now (last zs)) (sym (keep_map (zone s) (L.started now) (zone_indices s)))
    ∙ ap (λ (zs : List Zone). L.zone_now (last (keep (L.started now) zs))) (sym (by_index (zone s) 0 (zone_count s)))

pub zone_listed_lem : ZoneListedMeans
unfolding zone_listed_in zones_in L.zone_at
zone_listed_lem s i = listed_means s i (zone_count s)

pub window_listed_lem : WindowListedMeans
unfolding window_listed_in windows_in L.window_at
window_listed_lem s i =
    by_test (ltb i (window_count s)) (λ t. rw t refl) (λ t. rw t refl) ∙ sym (listed (λ k. window_at s (window_place k)) (window_count s) i)

-- ## How many there are

pub few_zones : (s : List ℕ) → length (zones_in s) ≤ 8
unfolding zones_in
few_zones s = omega (arith, length_entries (zone s) 0 (zone_count s), count_most zone_count_place 8 s)

pub few_windows : (s : List ℕ) → length (windows_in s) ≤ 16
unfolding windows_in
few_windows s = omega (arith, length_entries (λ i. window_at s (window_place i)) 0 (window_count s), count_most window_count_place 16 s)
