-- A zone that was read at a place: its name stands where `name_place` says.
use Rattle.std.proofs.Common.{Option, None, Some, Bool, true, false, List, [], ◌∷◌, ◌≡◌, refl, sym, ap, ◌∙◌, ℕ, zero, suc, ◌+◌, ◌≤◌, arith, leb-true, leb-false, leb, length, take, drop, get_or}
use Rattle.model.specs.Lists.{Name, Zone}
use Rattle.model.specs.Bytes.{Front, then, take_bytes, byte, named, read_name, make_zone, read_zone, well_formed}
use Rattle.model.proofs.Facts.{by_test}
use Rattle.record.specs.Fronts.{name_place}
use Rattle.record.specs.Data.{name_read}
use Rattle.record.proofs.Front.{offset_at, start_at, byte_at, no_byte, entry_there, entry_short}

module _ (s : List ℕ) (at : ℕ) where
  -- the bytes of a name of `n` bytes, as far as they are there
  abbrev bytes_there : ℕ → Name
  bytes_there n = take n (drop (at + 14) s)

  -- a name's place gives the name
  abbrev pub Placed : Option Name → Type 0
  Placed n = name_read s (name_place at n) ≡ n

  take_taken : (n : ℕ) (l : List ℕ) → take (length (take n l)) l ≡ take n l
  take_taken zero l = refl
  take_taken (suc n) [] = refl
  take_taken (suc n) (x ∷ l) = ap (λ (r : List ℕ). x ∷ r) (take_taken n l)

  bytes_placed : (n : ℕ) → Placed (Some (bytes_there n))
  bytes_placed n = ap Some (take_taken n (drop (at + 14) s))

  name_off : (w : Bool) (n : ℕ) (u : List ℕ) (a : Option Name) (t : List ℕ) → named w (bytes_there n) u ≡ Some (a, t) → Placed a
  unfolding named
  name_off true n u a t h =
      let q : ◌≡◌ {A = Option Name × List ℕ} (Some (bytes_there n), u) (a, t) = cc in
      let e : Some (bytes_there n) ≡ a = ap (λ p. p.0) q in
      rw (← e) (bytes_placed n)
  name_off false n u a t h = cc

  -- a length byte and as many bytes
  long_off : (n : ℕ) (a : Option Name) (t : List ℕ) → then (take_bytes n (drop (at + 14) s)) (λ name s₂. named (well_formed name) name s₂) ≡ Some (a, t) → Placed a
  unfolding take_bytes
  long_off n a t h =
      by_test (leb n (length (drop (at + 14) s)))
      (λ e. let k : named (well_formed (bytes_there n)) (bytes_there n) (drop n (drop (at + 14) s)) ≡ Some (a, t) = rw e at h in
      name_off (well_formed (bytes_there n)) n (drop n (drop (at + 14) s)) a t k)
      (λ e. let k : ◌≡◌ {A = Front (Option Name)} None (Some (a, t)) = rw e at h in cc)

  tail_off : (m : ℕ) (a : Option Name) (t : List ℕ) → at + 13 ≤ length s → read_name m (drop (at + 13) s) ≡ Some (a, t) → Placed a
  unfolding read_name
  tail_off zero a t l h =
      let q : ◌≡◌ {A = Option Name × List ℕ} (None, drop (at + 13) s) (a, t) = cc in
      let e : None ≡ a = ap (λ p. p.0) q in
      rw (← e) refl
  tail_off (suc zero) a t l h =
      by_test (leb (at + 14) (length s))
      (λ e. let k = leb-true (at + 14) (length s) e in
      let i : at + 13 + 1 ≡ at + 14 = omega arith in
      let b : byte (drop (at + 13) s) ≡ Some (get_or s (at + 13) 0, drop (at + 14) s) = byte_at s (at + 13) (omega arith) ∙ ap (λ (j : ℕ). Some (get_or s (at + 13) 0, drop j s)) i in
      long_off (get_or s (at + 13) 0) a t (rw b at h))
      (λ e. let k = leb-false (at + 14) (length s) e in
      let n : ◌≡◌ {A = Front (Option Name)} None (Some (a, t)) = rw (no_byte s (at + 13) (omega arith)) at h in cc)
  tail_off (suc (suc m)) a t l h = cc

  -- what follows the mark, of a zone
  made : (f : Front (Option Name)) (z : Zone) (t : List ℕ) → then f (λ a s₄. Some (make_zone (offset_at s at) (start_at s at) a, s₄)) ≡ Some (z, t)
      → ((a : Option Name) (u : List ℕ) → f ≡ Some (a, u) → Placed a) → Placed z.name
  made None z t h g = cc
  made (Some p) z t h g =
      let q : ◌≡◌ {A = Zone × List ℕ} (make_zone (offset_at s at) (start_at s at) p.0, p.1) (z, t) = cc in
      let e : p.0 ≡ z.name = ap (λ y. y.0.name) q in
      rw (← e) (g p.0 p.1 refl)

  pub zone_name_lem : (z : Zone) (t : List ℕ) → read_zone (drop at s) ≡ Some (z, t) → Placed z.name
  zone_name_lem z t h =
      by_test (leb (at + 13) (length s))
      (λ e. let k = leb-true (at + 13) (length s) e in
      made (read_name (get_or s (at + 12) 0) (drop (at + 13) s)) z t (sym (entry_there read_name make_zone s at k) ∙ h) (λ a u q. tail_off (get_or s (at + 12) 0) a u k q))
      (λ e. let n : ◌≡◌ {A = Front Zone} None (Some (z, t)) = sym (entry_short read_name make_zone s at (leb-false (at + 13) (length s) e)) ∙ h in
      cc)
