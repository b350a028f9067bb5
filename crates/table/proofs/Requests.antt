-- What an accepted request holds: its entries, as they are written.
use Rattle.std.specs.Prelude.{Option, None, Some, Result, Ok, Err}
use Rattle.std.proofs.Common.{◌≡◌, ℕ, suc, ◌+◌, ◌<◌, ◌≤◌, Bool, false, cond, List, [], ◌∷◌, ◌++◌, length, get_or, drop, sym, refl, ap, ◌∙◌, append-nil, arith, Fits, w8}
use Rattle.model.specs.declared.Refusal.{Refusal}
use Rattle.model.specs.Lists.{Window}
use Rattle.model.specs.Bytes.{Front, zone_bytes, window_bytes, zones_bytes, windows_bytes, all_bytes, read_zone, read_window, read_all, read_section, read_zones, read_windows}
use Rattle.model.specs.Rules as M
use Rattle.model.specs.RoundTrip.{AreBytes}
use Rattle.model.proofs.ReadBack as B
use Rattle.word.specs.Place.{byte_at}
use Rattle.record.proofs.Suffix.{zone_leaves, window_leaves}
use Rattle.record.proofs.Meaning.{whole_is, section_read}
use Rattle.rules.specs.Verdicts.{verdict_of, list_verdict, zones_tested, windows_tested}
use Rattle.table.specs.Layout.{with_zones, with_windows, counted}
use Rattle.table.specs.Held.{found, Held, zones_behind, windows_behind}
use Rattle.table.specs.Left.{zones_left, empties, windows_left}

-- bytes of a slice are below 256
pub are_bytes : (s : List ℕ) → ((i : ℕ) → get_or s i 0 < 256) → AreBytes s
are_bytes [] f = tt
are_bytes (b ∷ s) f = (f 0, are_bytes s (λ i. f (suc i)))

-- what is unreadable is not accepted
readable : {A : Type 0} (limit : ℕ) (rule : ℕ → Option A → A → M.Verdict) (o : Option (List A)) → verdict_of (list_verdict limit rule o) ≡ (Ok tt) → (C : Type 0) → ((xs : List A) → o ≡ Some xs → C) → C
readable limit rule None h C go = cc
readable limit rule (Some xs) h C go = go xs refl

-- the entries `xs` of a section at `at`: they are what is read behind the count, and they stand there
pub record There {A : Type 0} (entry_bytes : A → List ℕ) (s : List ℕ) (at : ℕ) (behind xs : List A) : Type 0 where
  pub listed : behind ≡ xs
  pub held : Held entry_bytes s (at + 1) (byte_at s at) behind

module _ {A : Type 0} (read_one : List ℕ → Front A) (entry_bytes : A → List ℕ) (s : List ℕ) (at : ℕ) (xs : List A) (t rest : List ℕ) where
  pub there : at + 1 ≤ length s → byte_at s at ≡ length xs → read_all read_one (length xs) (drop (at + 1) s) ≡ Some (xs, t) → drop (at + 1) s ≡ all_bytes entry_bytes xs ++ rest
      → There entry_bytes s at (found (read_all read_one (byte_at s at) (drop (at + 1) s))) xs
  there h c r e =
      let l : found (read_all read_one (byte_at s at) (drop (at + 1) s)) ≡ xs = rw (c, r) refl in
      record { listed = l; held = record { number = ap length l ∙ sym c; within = h; rest = rest; is = rw l e } }

-- the list of an accepted request
pub record Request {A : Type 0} (entry_bytes : A → List ℕ) (s : List ℕ) (o : Option (List A)) (behind : List A) : Type 0 where
  pub list : List A
  pub is : o ≡ Some list
  pub there : There entry_bytes s 0 behind list

pub zones_requested : (limit : ℕ) (s : List ℕ) → AreBytes s → zones_tested limit s ≡ (Ok tt) → Request zone_bytes s (read_zones s) (zones_behind s 0)
unfolding zones_tested read_zones zones_bytes zones_behind
zones_requested limit s b h =
    readable limit M.zone_rule (read_zones s) h (Request zone_bytes s (read_zones s) (zones_behind s 0))
    (λ zs e.
    let r = section_read read_zone zone_leaves s 0 zs [] (whole_is (read_section read_zone s) zs e) in
    let w = ap (drop 1) (B.zones_written s zs b e).0 ∙ sym (append-nil (all_bytes zone_bytes zs)) in
    record { list = zs; is = e; there = there read_zone zone_bytes s 0 zs [] [] (omega (arith, r.there)) r.count r.entries w })

pub windows_requested : (limit : ℕ) (s : List ℕ) → AreBytes s → windows_tested limit s ≡ (Ok tt) → Request window_bytes s (read_windows s) (windows_behind s 0)
unfolding windows_tested read_windows windows_bytes windows_behind
windows_requested limit s b h =
    readable limit M.window_rule (read_windows s) h (Request window_bytes s (read_windows s) (windows_behind s 0))
    (λ ws e.
    let r = section_read read_window window_leaves s 0 ws [] (whole_is (read_section read_window s) ws e) in
    let w = ap (drop 1) (B.windows_written s ws b e).0 ∙ sym (append-nil (all_bytes window_bytes ws)) in
    record { list = ws; is = e; there = there read_window window_bytes s 0 ws [] [] (omega (arith, r.there)) r.count r.entries w })

-- ## The calls, from the bytes that were read

module _ (s : List ℕ) (k : ℕ) (f : (i : ℕ) → Fits w8 (get_or s i 0)) where
  zones_asked : zones_tested k s ≡ (Ok tt) → Request zone_bytes s (read_zones s) (zones_behind s 0)
  zones_asked = zones_requested k s (are_bytes s (λ i. (f i).fits))

  windows_asked : windows_tested k s ≡ (Ok tt) → Request window_bytes s (read_windows s) (windows_behind s 0)
  windows_asked = windows_requested k s (are_bytes s (λ i. (f i).fits))

  -- the entries stand there
  pub zones_held : zones_tested k s ≡ (Ok tt) → Held zone_bytes s 1 (byte_at s 0) (zones_behind s 0)
  zones_held h = (zones_asked h).there.held

  pub windows_held : windows_tested k s ≡ (Ok tt) → Held window_bytes s 1 (byte_at s 0) (windows_behind s 0)
  windows_held h = (windows_asked h).there.held

  -- and the table that is left
  pub left_by_zones : (t u x : List ℕ) → zones_tested k s ≡ (Ok tt) → u ≡ with_zones t (zones_behind s 0) → x ≡ counted (with_windows u []) → x ≡ zones_left (Ok tt) (read_zones s) t
  left_by_zones t u x h p q = let r = zones_asked h in rw (r.is, q, p, r.there.listed) refl

  pub left_by_windows : (t u x : List ℕ) → windows_tested k s ≡ (Ok tt) → u ≡ with_windows t (windows_behind s 0) → x ≡ counted u → x ≡ windows_left (Ok tt) (read_windows s) t
  left_by_windows t u x h p q = let r = windows_asked h in rw (r.is, q, p, r.there.listed) refl

-- windows that are turned down for another cause stay
pub windows_stay : (t : List ℕ) (v : Result (Unit {0}) Refusal) (cause : Refusal) (o : Option (List Window)) → Err cause ≡ v → empties cause ≡ false → t ≡ windows_left v o t
windows_stay t v cause o e h = sym (ap (λ (w : Result (Unit {0}) Refusal). windows_left w o t) (sym e) ∙ ap (λ (b : Bool). cond b (counted (with_windows t [])) t) h)
