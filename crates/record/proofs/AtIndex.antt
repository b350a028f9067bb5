-- Entry `i` of a readable request, as the readers answer it, is the `i`th of the list that it reads as.
use Rattle.std.proofs.Common.{Option, Some, option_map, option_and_then, slice_get, List, [], ◌≡◌, sym, ap, ◌∙◌, ℕ, ◌≤◌, ◌<◌, arith, lt-ltb, length, drop, get_or}
use Rattle.model.specs.Lists.{Name, Zone, Window}
use Rattle.model.specs.Bytes.{Front, whole, read_zone, read_window, read_section, read_zones, read_windows}
use Rattle.record.specs.Fronts.{zone_found, zone_at, window_found, window_at, next_zone, next_window, section_entry}
use Rattle.record.specs.RoundTrip.{zone_read, window_read, ZoneIndexed, WindowIndexed}
use Rattle.record.proofs.Front.{place_drop}
use Rattle.record.proofs.Suffix.{Leaves, zone_leaves, window_leaves}
use Rattle.record.proofs.Meaning.{whole_is, section_read, indexed}
use Rattle.record.proofs.Names.{zone_name_lem}

module _ (s : List ℕ) where
  zone_goes : (at k : ℕ) (z : Zone) → read_zone (drop at s) ≡ Some (z, drop k s) → k ≤ length s → option_map next_zone (zone_at s at) ≡ Some k
  unfolding zone_at
  zone_goes at k z e h = ap (λ (f : Front Zone). option_map next_zone (zone_found s at f)) e ∙ ap Some (place_drop s k h)

  -- the answer for a zone that is read at a place stands for the zone
  pub zone_there : (at : ℕ) (z : Zone) (t : List ℕ) → read_zone (drop at s) ≡ Some (z, t) → zone_read s (zone_at s at) ≡ Some z
  unfolding zone_at
  zone_there at z t e =
      ap (λ (f : Front Zone). zone_read s (zone_found s at f)) e
      ∙ ap (λ (n : Option Name). Some (record { offset = z.offset; start = z.start; name = n })) (zone_name_lem s at z t e)

  window_goes : (at k : ℕ) (w : Window) → read_window (drop at s) ≡ Some (w, drop k s) → k ≤ length s → option_map next_window (window_at s at) ≡ Some k
  unfolding window_at
  window_goes at k w e h = ap (λ (f : Front Window). option_map next_window (window_found s f)) e ∙ ap Some (place_drop s k h)

  pub window_there : (at : ℕ) (w : Window) (t : List ℕ) → read_window (drop at s) ≡ Some (w, t) → window_read (window_at s at) ≡ Some w
  unfolding window_at
  window_there at w t e = ap (λ (f : Front Window). window_read (window_found s f)) e

-- entry `i` of any kind, by what its answer stands for
module _ {A E : Type 0} (read_one : List ℕ → Front A) (leaves : Leaves read_one) (found_at : List ℕ → ℕ → Option E) (next_of : E → ℕ) (s : List ℕ)
    (stands_for : Option E → Option A)
    (goes : (at k : ℕ) (x : A) → read_one (drop at s) ≡ Some (x, drop k s) → k ≤ length s → option_map next_of (found_at s at) ≡ Some k)
    (there : (at : ℕ) (x : A) (t : List ℕ) → read_one (drop at s) ≡ Some (x, t) → stands_for (found_at s at) ≡ Some x) where
  entry_indexed : (xs : List A) → whole (read_section read_one s) ≡ Some xs → (i : ℕ) → i < length xs → stands_for (section_entry found_at next_of s i) ≡ slice_get xs i
  unfolding section_entry
  entry_indexed xs h i l =
      let e = whole_is (read_section read_one s) xs h in
      let c = section_read read_one leaves s 0 xs [] e in
      let x = indexed read_one leaves found_at next_of s goes xs e i l in
      let q : i < get_or s 0 0 = omega (arith, c.count) in
      rw (lt-ltb i (get_or s 0 0) q) (ap (λ (o : Option ℕ). stands_for (option_and_then (found_at s) o)) x.after ∙ there x.place x.entry x.left x.read ∙ sym x.is)

pub zone_indexed : ZoneIndexed
unfolding read_zones
zone_indexed s = entry_indexed read_zone zone_leaves zone_at next_zone s (zone_read s) (zone_goes s) (zone_there s)

pub window_indexed : WindowIndexed
unfolding read_windows
window_indexed s = entry_indexed read_window window_leaves window_at next_window s window_read (window_goes s) (window_there s)
