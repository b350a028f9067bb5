-- What an accepted record holds: its entries, as they are written.
use Rattle.std.specs.Prelude.{Option, None, Some, Ok}
use Rattle.std.proofs.Common.{◌≡◌, ℕ, suc, ◌+◌, List, [], ◌∷◌, ◌++◌, length, get_or, drop, sym, refl, ap, ◌∙◌, append-nil, arith, drop-drop, drop_at, Fits, w8}
use Rattle.model.specs.Lists.{Zone, Lists}
use Rattle.model.specs.Bytes.{zone_bytes, window_bytes, zones_bytes, windows_bytes, record_bytes, all_bytes, read_zone, read_window, read_section, read_windows, read_record}
use Rattle.model.specs.History.{verdict, record_verdict}
use Rattle.model.specs.RoundTrip.{AreBytes}
use Rattle.model.proofs.ReadBack as B
use Rattle.model.proofs.WriteBack as W
use Rattle.word.specs.Place.{byte_at}
use Rattle.record.proofs.Suffix.{window_leaves}
use Rattle.record.proofs.Meaning.{whole_is, section_read, record_means}
use Rattle.rules.specs.Verdicts.{verdict_of, record_tested}
use Rattle.table.specs.Layout.{with_zones, with_windows}
use Rattle.table.specs.Held.{Held, zones_behind, windows_behind}
use Rattle.table.specs.Left.{lists_left}
use Rattle.table.proofs.Requests.{are_bytes, There, there}

-- the place of the second section
abbrev pub second_at : Lists → ℕ
second_at l = 1 + length (all_bytes zone_bytes l.zones)

pub record Stored (s : List ℕ) : Type 0 where
  pub lists : Lists
  pub is : read_record s ≡ Some lists
  pub first : There zone_bytes s 0 (zones_behind s 0) lists.zones
  pub second : There window_bytes s (second_at lists) (windows_behind s (second_at lists)) lists.windows

module _ (s : List ℕ) (b : AreBytes s) (l : Lists) (e : read_record s ≡ Some l) where
  abbrev windows : List ℕ
  windows = length l.windows ∷ all_bytes window_bytes l.windows

  spelt : s ≡ length l.zones ∷ (all_bytes zone_bytes l.zones ++ windows)
  unfolding record_bytes zones_bytes windows_bytes
  spelt = (B.record_written s l b e).0

  behind : drop (second_at l) s ≡ windows
  behind =
      let q : 1 + length (all_bytes zone_bytes l.zones) ≡ suc (length (all_bytes zone_bytes l.zones)) = omega arith in
      ap (drop (second_at l)) spelt ∙ ap (λ (k : ℕ). drop k (length l.zones ∷ (all_bytes zone_bytes l.zones ++ windows))) q
      ∙ drop_at (all_bytes zone_bytes l.zones) windows (length (all_bytes zone_bytes l.zones)) refl

  windows_read_lem : read_section read_window (drop (second_at l) s) ≡ Some (l.windows, [])
  unfolding read_windows windows_bytes
  windows_read_lem = ap (read_section read_window) behind ∙ whole_is (read_section read_window windows) l.windows (W.windows_back l.windows (B.record_written s l b e).1.windows)

  stored : Stored s
  unfolding zones_behind windows_behind
  stored =
      let r = section_read read_window window_leaves s (second_at l) l.windows [] windows_read_lem in
      record {
        lists = l;
        is = e;
        first =
            there read_zone zone_bytes s 0 l.zones _ windows (omega (arith, ap length spelt)) (ap (λ (t : List ℕ). byte_at t 0) spelt) ((record_means s).readable l e).zones (ap (drop 1) spelt);
        second =
            there read_window window_bytes s (second_at l) l.windows [] [] (omega (arith, r.there)) r.count r.entries
            (sym (drop-drop 1 (second_at l) s) ∙ ap (drop 1) behind ∙ sym (append-nil (all_bytes window_bytes l.windows)));
      }

pub record_stored_lem : (zones windows : ℕ) (s : List ℕ) → AreBytes s → record_tested zones windows s ≡ (Ok tt) → Stored s
unfolding record_tested verdict
record_stored_lem zones windows s b h = go (read_record s) refl h
  where
    go : (o : Option Lists) → read_record s ≡ o → verdict_of (record_verdict (record { zone_limit = zones; window_limit = windows }) o) ≡ (Ok tt) → Stored s
    go None e k = cc
    go (Some l) e k = stored s b l e

-- ## A load, from the bytes that were read

module _ (s : List ℕ) (k m : ℕ) (f : (i : ℕ) → Fits w8 (get_or s i 0)) (h : record_tested k m s ≡ (Ok tt)) where
  there_stored : Stored s
  there_stored = record_stored_lem k m s (are_bytes s (λ i. (f i).fits)) h

  -- the entries stand there
  pub first_held : Held zone_bytes s 1 (byte_at s 0) (zones_behind s 0)
  first_held = there_stored.first.held

  second_place : (at : ℕ) → at ≡ 1 + length (all_bytes zone_bytes (zones_behind s 0)) → at ≡ second_at there_stored.lists
  second_place at p = p ∙ ap (λ (zs : List Zone). 1 + length (all_bytes zone_bytes zs)) there_stored.first.listed

  pub second_held : (at : ℕ) → at ≡ 1 + length (all_bytes zone_bytes (zones_behind s 0)) → Held window_bytes s (at + 1) (byte_at s at) (windows_behind s at)
  second_held at p = rw (second_place at p) there_stored.second.held

  -- and the table that is left
  pub left_by_load : (t u x : List ℕ) (at : ℕ) → u ≡ with_zones t (zones_behind s 0) → at ≡ 1 + length (all_bytes zone_bytes (zones_behind s 0)) → x ≡ with_windows u (windows_behind s at)
      → x ≡ lists_left (Ok tt) (read_record s) t
  left_by_load t u x at p e q = let r = there_stored in rw (r.is, q, p, second_place at e, r.first.listed, r.second.listed) refl
