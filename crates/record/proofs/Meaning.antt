-- What the readers' answers say of the entries that a section or a record reads as.
use Rattle.std.proofs.Common.{Option, None, Some, slice_get, option_map, cond, List, [], ◌∷◌, ◌≡◌, refl, sym, ap, ◌∙◌, ℕ, zero, suc, ◌+◌, ◌-◌, ◌≤◌, ◌<◌, arith, eq-eqb, ne_eqb, ltb-true, ltb-false, eqb, ltb, length, drop, get_or, length-drop}
use Rattle.model.specs.Lists.{Zone, Window, Lists}
use Rattle.model.specs.Bytes.{Front, then, byte, read_zone, read_window, read_all, read_section, whole, nothing_left, read_zones, read_windows, read_record}
use Rattle.record.specs.Fronts.{place_of, section_found, section_at, is_whole, zones_whole, windows_whole, windows_found, zones_found, record_at, entries_at, place_after}
use Rattle.record.specs.RoundTrip.{request_found, ZonesMean, WindowsMean, RecordMeans}
use Rattle.model.proofs.Facts.{by_test}
use Rattle.record.proofs.Front.{byte_at, no_byte}
use Rattle.record.proofs.Suffix.{Left, Leaves, left_on, left_place, then_leaves, zone_leaves, window_leaves}
use Rattle.record.proofs.Sections.{counted, entries}
use Rattle.record.proofs.Indexed.{place_more}

-- ## A section leaves what stands from some place on

module _ {A : Type 0} (read_one : List ℕ → Front A) (leaves : Leaves read_one) where
  pub all_leave : (n : ℕ) → Leaves (read_all read_one n)
  unfolding read_all
  all_leave zero s xs t h = let q : ◌≡◌ {A = List A × List ℕ} ([], s) (xs, t) = cc in record { at = 0; within = omega arith; is = sym (ap (λ p. p.1) q) }
  all_leave (suc n) s xs t h =
      then_leaves read_one _ leaves
      (λ x. then_leaves (read_all read_one n) _ (all_leave n)
      (λ ys u zs v k. let q : ◌≡◌ {A = List A × List ℕ} (x ∷ ys, u) (zs, v) = cc in record { at = 0; within = omega arith; is = sym (ap (λ p. p.1) q) })) s xs t h

  byte_leaves : Leaves byte
  byte_leaves [] a t h = cc
  byte_leaves (x ∷ s) a t h = let q : ◌≡◌ {A = ℕ × List ℕ} (x, s) (a, t) = cc in record { at = 1; within = omega arith; is = sym (ap (λ p. p.1) q) }

  pub section_leaves : Leaves (read_section read_one)
  section_leaves s xs t h = then_leaves byte _ byte_leaves (λ n. all_leave n) s xs t h

  -- ## A request

  module _ (s : List ℕ) (at : ℕ) (h : at ≤ length s) where
    by_rest : (xs : List A) (t : List ℕ) → Left s t
        → cond (eqb (place_of s t) (length s)) (entries (length xs) (place_of s t)) None ≡ request_found (length s) (nothing_left xs t)
    by_rest xs [] l =
        let k : place_of s [] ≡ length s = omega arith in
        rw (eq-eqb (place_of s []) (length s) k) (ap (λ (n : ℕ). entries (length xs) n) k)
    by_rest xs (b ∷ t) l =
        let n : suc (length t) ≡ length s - l.at = ap length l.is ∙ length-drop l.at s in
        let k : place_of s (b ∷ t) ≡ length s → ⊥ = λ q. omega arith in
        rw (ne_eqb (place_of s (b ∷ t)) (length s) k)

    request : (f : Front (List A)) → read_section read_one (drop at s) ≡ f → is_whole (length s) (section_found s f) ≡ request_found (length s) (whole f)
    request None e = refl
    request (Some p) e = by_rest p.0 p.1 (left_on (record { at = at; within = h; is = refl }) (section_leaves (drop at s) p.0 p.1 e))

    -- a section at a place, with nothing left over
    pub whole_request : is_whole (length s) (section_found s (read_section read_one (drop at s))) ≡ request_found (length s) (whole (read_section read_one (drop at s)))
    whole_request = request (read_section read_one (drop at s)) refl

  -- ## A section, entry by entry

  -- the entries of a section at `at` stand behind its count
  pub record Section (s : List ℕ) (at : ℕ) (xs : List A) (t : List ℕ) : Type 0 where
    pub there : at < length s
    pub count : get_or s at 0 ≡ length xs
    pub entries : read_all read_one (length xs) (drop (at + 1) s) ≡ Some (xs, t)

  pub section_read : (s : List ℕ) (at : ℕ) (xs : List A) (t : List ℕ) → read_section read_one (drop at s) ≡ Some (xs, t) → Section s at xs t
  section_read s at xs t h =
      by_test (ltb at (length s))
      (λ e. let k = ltb-true at (length s) e in
      let r : read_all read_one (get_or s at 0) (drop (at + 1) s) ≡ Some (xs, t) = rw (byte_at s at k) at h in
      let c = counted read_one (get_or s at 0) (drop (at + 1) s) xs t r in
      record { there = k; count = sym c; entries = rw c r })
      (λ e. let k = ltb-false at (length s) e in
      let n : None ≡ Some (xs, t) = rw (no_byte s at k) at h in
      record { there = cc; count = cc; entries = cc })

  -- the first of some entries, and the others behind it
  pub record First (s : List ℕ) (at n : ℕ) (xs : List A) (t : List ℕ) : Type 0 where
    pub head : A
    pub tail : List A
    pub next : ℕ
    pub is : xs ≡ head ∷ tail
    pub read : read_one (drop at s) ≡ Some (head, drop next s)
    pub within : next ≤ length s
    pub rest : read_all read_one n (drop next s) ≡ Some (tail, t)

  pub first_read : (s : List ℕ) (at n : ℕ) (xs : List A) (t : List ℕ) → at ≤ length s → read_all read_one (suc n) (drop at s) ≡ Some (xs, t) → First s at n xs t
  unfolding read_all
  first_read s at n xs t h r = go (read_one (drop at s)) refl r
    where
      more : (x : A) (u : List ℕ) (k : ℕ) → read_one (drop at s) ≡ Some (x, u) → u ≡ drop k s → k ≤ length s → (f : Front (List A)) → read_all read_one n u ≡ f
          → then f (λ ys s₂. Some (x ∷ ys, s₂)) ≡ Some (xs, t) → First s at n xs t
      more x u k e d w None g q = record { head = x; tail = []; next = k; is = cc; read = cc; within = w; rest = cc }
      more x u k e d w (Some p) g q =
          let j : ◌≡◌ {A = List A × List ℕ} (x ∷ p.0, p.1) (xs, t) = cc in
          record {
            head = x;
            tail = p.0;
            next = k;
            is = sym (ap (λ y. y.0) j);
            read = e ∙ ap (λ (v : List ℕ). Some (x, v)) d;
            within = w;
            rest = ap (read_all read_one n) (sym d) ∙ g ∙ ap (λ (v : List ℕ). Some (p.0, v)) (ap (λ y. y.1) j);
          }

      go : (f : Front A) → read_one (drop at s) ≡ f → then f (λ x s₁. then (read_all read_one n s₁) (λ ys s₂. Some (x ∷ ys, s₂))) ≡ Some (xs, t) → First s at n xs t
      go None e q = cc
      go (Some p) e q =
          let l = left_place s at p.1 h (leaves (drop at s) p.0 p.1 e) in
          more p.0 p.1 (place_of s p.1) e l.0 l.1 (read_all read_one n p.1) refl q

pub zones_mean : ZonesMean
unfolding zones_whole section_at read_zones
zones_mean s = whole_request read_zone zone_leaves s 0 (omega arith)

pub windows_mean : WindowsMean
unfolding windows_whole section_at read_windows
windows_mean s = whole_request read_window window_leaves s 0 (omega arith)

-- ## A record

-- the second section, read behind the first
abbrev second : List Zone → Front (List Window) → Option Lists
second zs f = whole (then f (λ ws s₂. Some (record { zones = zs; windows = ws }, s₂)))

-- with the first section's zones, the second is whole where the record is
second_is : (zs : List Zone) (f : Front (List Window)) (l : Lists) → second zs f ≡ Some l → (whole f ≡ Some l.windows) × (zs ≡ l.zones)
second_is zs None l h = (cc, cc)
second_is zs (Some p) l h = go p.1 h
  where
    go : (t : List ℕ) → nothing_left (record { zones = zs; windows = p.0 }) t ≡ Some l → (nothing_left p.0 t ≡ Some l.windows) × (zs ≡ l.zones)
    go [] k = let q : record { zones = zs; windows = p.0 } ≡ l = cc in (ap (λ (x : Lists). Some x.windows) q, ap (λ (x : Lists). x.zones) q)
    go (b ∷ t) k = (cc, cc)

second_none : (zs : List Zone) (f : Front (List Window)) → second zs f ≡ None → whole f ≡ None
second_none zs None h = refl
second_none zs (Some p) h = go p.1 h
  where
    go : (t : List ℕ) → nothing_left {A = Lists} (record { zones = zs; windows = p.0 }) t ≡ None → nothing_left p.0 t ≡ None
    go [] k = cc
    go (b ∷ t) k = refl

pub whole_is : {A : Type 0} (f : Front A) (x : A) → whole f ≡ Some x → f ≡ Some (x, [])
whole_is None x h = cc
whole_is {A} (Some p) x h = go p.1 h
  where
    go : (t : List ℕ) → nothing_left p.0 t ≡ Some x → ◌≡◌ {A = Front A} (Some (p.0, t)) (Some (x, []))
    go [] k = let q : p.0 ≡ x = cc in ap (λ y. Some (y, [])) q
    go (b ∷ t) k = cc

module _ (s : List ℕ) where
  -- the answer, once the first section is read
  answer : (zs : List Zone) (t : List ℕ) → read_section read_zone s ≡ Some (zs, t) → (k : ℕ) → t ≡ drop k s → k ≤ length s → place_of s t ≡ k
      → record_at s ≡ windows_found (length zs) k (request_found (length s) (whole (read_section read_window t)))
  unfolding record_at section_at
  answer zs t e k d w q =
      ap (λ (f : Front (List Zone)). zones_found s (section_found s f)) e
      ∙ ap (λ (n : ℕ). windows_found (length zs) n (is_whole (length s) (section_found s (read_section read_window (drop n s))))) q
      ∙ ap (windows_found (length zs) k) (whole_request read_window window_leaves s k w ∙ ap (λ (u : List ℕ). request_found (length s) (whole (read_section read_window u))) (sym d))

  by_zones : (f : Front (List Zone)) → read_section read_zone s ≡ f → RecordMeans s
  unfolding read_record record_at section_at
  by_zones None e =
      record {
        unreadable = λ h. ap (λ (f : Front (List Zone)). zones_found s (section_found s f)) e;
        readable = λ l h.
            let q : ◌≡◌ {A = Option Lists} None (Some l) = sym (ap (λ (f : Front (List Zone)). whole (then f (λ zs s₁. then (read_section read_window s₁) (λ ws s₂. Some (record { zones = zs; windows = ws }, s₂))))) e) ∙ h in
            cc;
      }
  by_zones (Some p) e =
      let l = left_place s 0 p.1 (omega arith) (section_leaves read_zone zone_leaves s p.0 p.1 e) in
      let a = answer p.0 p.1 e (place_of s p.1) l.0 l.1 refl in
      let r : read_record s ≡ second p.0 (read_section read_window p.1)
      = ap (λ (f : Front (List Zone)). whole (then f (λ zs s₁. then (read_section read_window s₁) (λ ws s₂. Some (record { zones = zs; windows = ws }, s₂))))) e in
      record {
        unreadable = λ h. a ∙ ap (λ (o : Option (List Window)). windows_found (length p.0) (place_of s p.1) (request_found (length s) o)) (second_none p.0 (read_section read_window p.1) (sym r ∙ h));
        readable = λ lists h.
            let b = second_is p.0 (read_section read_window p.1) lists (sym r ∙ h) in
            let z = section_read read_zone zone_leaves s 0 p.0 p.1 e in
            let w = section_read read_window window_leaves s (place_of s p.1) lists.windows [] (ap (read_section read_window) (sym l.0) ∙ whole_is (read_section read_window p.1) lists.windows b.0) in
            record {
              at = place_of s p.1;
              answer =
                  a ∙ ap (λ (o : Option (List Window)). windows_found (length p.0) (place_of s p.1) (request_found (length s) o)) b.0
                  ∙ ap (λ (zs : List Zone). Some (record { zones = length zs; at = place_of s p.1; windows = length lists.windows })) b.1;
              zones =
                  ap (λ (zs : List Zone). read_all read_zone (length zs) (drop 1 s)) (sym b.1) ∙ z.entries ∙ ap (λ (u : List ℕ). Some (p.0, u)) l.0
                  ∙ ap (λ (zs : List Zone). Some (zs, drop (place_of s p.1) s)) b.1;
              windows = w.entries;
            };
      }

pub record_means : (s : List ℕ) → RecordMeans s
record_means s = by_zones s (read_section read_zone s) refl

-- ## Entry `i` of a request

module _ {A E : Type 0} (read_one : List ℕ → Front A) (leaves : Leaves read_one) (found_at : List ℕ → ℕ → Option E) (next_of : E → ℕ) (s : List ℕ)
    (goes : (at k : ℕ) (x : A) → read_one (drop at s) ≡ Some (x, drop k s) → k ≤ length s → option_map next_of (found_at s at) ≡ Some k) where
  -- the place of entry `i` of those from `at` on, and what is read there
  pub record Indexed (at : ℕ) (xs : List A) (i : ℕ) : Type 0 where
    pub place : ℕ
    pub entry : A
    pub left : List ℕ
    pub after : place_after found_at next_of s at i ≡ Some place
    pub read : read_one (drop place s) ≡ Some (entry, left)
    pub is : slice_get xs i ≡ Some entry

  from : (i at : ℕ) (n : ℕ) (xs : List A) (t : List ℕ) → at ≤ length s → read_all read_one n (drop at s) ≡ Some (xs, t) → i < n → Indexed at xs i
  unfolding entries_at
  from i at zero xs t h r l = absurd (omega arith)
  from zero at (suc n) xs t h r l =
      let f = first_read read_one leaves s at n xs t h r in
      record { place = at; entry = f.head; left = drop f.next s; after = refl; read = f.read; is = ap (λ (ys : List A). slice_get ys 0) f.is }
  from (suc i) at (suc n) xs t h r l =
      let f = first_read read_one leaves s at n xs t h r in
      let g = from i f.next n f.tail t f.within f.rest (omega arith) in
      record {
        place = g.place;
        entry = g.entry;
        left = g.left;
        after = place_more found_at next_of s at i (goes at f.next f.head f.read f.within) ∙ g.after;
        read = g.read;
        is = ap (λ (ys : List A). slice_get ys (suc i)) f.is ∙ g.is;
      }

  pub indexed : (xs : List A) → read_section read_one s ≡ Some (xs, []) → (i : ℕ) → i < length xs → Indexed 1 xs i
  indexed xs e i l = let c = section_read read_one leaves s 0 xs [] e in from i 1 (length xs) xs [] c.there c.entries l
