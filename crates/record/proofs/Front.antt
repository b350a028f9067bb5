-- What an entry at a place reads as, by the length of what is there, its mark and its name.
use Rattle.std.proofs.Common.{Option, None, Some, true, false, List, [], ◌∷◌, ◌≡◌, refl, ap, ◌∙◌, ℕ, zero, suc, ◌+◌, ◌≤◌, ◌<◌, add-one, arith, leb-true, leb-false, leb, lit<, ℤ, length, take, drop, get_or, length-drop, drop-cons, length-take-le}
use Rattle.model.specs.Lists.{Name}
use Rattle.model.specs.Bytes.{Front, then, take_bytes, byte, named, read_name, read_until, read_entry, make_zone, make_window, number, signed, well_formed}
use Rattle.model.proofs.Facts.{by_test}
use Rattle.word.specs.Place.{fits_at, text_at}
use Rattle.word.proofs.Places.{front_fits, front_short}
use Rattle.record.specs.declared.NamePlace.{NamePlace}
use Rattle.record.specs.declared.TimeZoneRead.{TimeZoneRead}
use Rattle.record.specs.declared.DSTOffsetRead.{DSTOffsetRead}
use Rattle.record.specs.Fronts.{place_of, zone_found, zone_at, window_found, window_at}

-- ## Places

-- what is left from `k` on is after `k` bytes
pub place_drop : (s : List ℕ) (k : ℕ) → k ≤ length s → place_of s (drop k s) ≡ k
place_drop s k h = rw (length-drop k s) (omega arith)

pub byte_at : (s : List ℕ) (at : ℕ) → at < length s → byte (drop at s) ≡ Some (get_or s at 0, drop (at + 1) s)
byte_at s at h = rw (add-one, drop-cons s at 0)

pub no_byte : (s : List ℕ) (at : ℕ) → length s ≤ at → byte (drop at s) ≡ None
no_byte s at h = nothing (drop at s) (length-drop at s ∙ omega arith)
  where
    nothing : (l : List ℕ) → length l ≡ 0 → byte l ≡ None
    nothing [] e = refl
    nothing (x ∷ l) e = absurd (omega arith)

-- ## An entry, whatever follows its mark

-- the offset and the start at `at`
abbrev pub offset_at : List ℕ → ℕ → ℤ
offset_at s at = signed (number (take 4 (drop at s)))

abbrev pub start_at : List ℕ → ℕ → ℕ
start_at s at = number (take 8 (drop (at + 4) s))

-- the answers of an entry's parts
abbrev pub zone_made : ℤ → ℕ → Option NamePlace → ℕ → Option TimeZoneRead
zone_made o t n k = Some (record { offset = o; valid_at = t; name = n; next = k })

abbrev pub window_made : ℤ → ℕ → Option ℕ → ℕ → Option DSTOffsetRead
window_made o t u k = Some (record { offset = o; valid_starting = t; valid_until = u; next = k })

module _ {A B : Type 0} (tail : ℕ → List ℕ → Front A) (make : ℤ → ℕ → A → B) (s : List ℕ) (at : ℕ) where
  abbrev rest : Front A → Front B
  rest f = then f (λ a s₄. Some (make (offset_at s at) (start_at s at) a, s₄))

  pub entry_there : at + 13 ≤ length s → read_entry tail make (drop at s) ≡ rest (tail (get_or s (at + 12) 0) (drop (at + 13) s))
  unfolding read_entry
  entry_there h =
      let e₁ : at + 4 + 8 ≡ at + 12 = omega arith in
      let e₂ : at + 12 + 1 ≡ at + 13 = omega arith in
      rw (front_fits 4 s at (omega arith), front_fits 8 s (at + 4) (omega arith), e₁, byte_at s (at + 12) (omega arith), e₂)

  pub entry_short : length s < at + 13 → read_entry tail make (drop at s) ≡ None
  unfolding read_entry
  entry_short h =
      by_test (leb (at + 4) (length s))
      (λ t. by_test (leb (at + 4 + 8) (length s))
      (λ u. let a = leb-true (at + 4) (length s) t in
      let b = leb-true (at + 4 + 8) (length s) u in
      rw (front_fits 4 s at a, front_fits 8 s (at + 4) b, no_byte s (at + 4 + 8) (omega arith)))
      (λ u. let a = leb-true (at + 4) (length s) t in rw (front_fits 4 s at a, front_short 8 s (at + 4) (lit< tt) (leb-false _ _ u))))
      (λ t. rw (front_short 4 s at (lit< tt) (leb-false _ _ t)))

-- ## A zone

module _ (s : List ℕ) (at : ℕ) where
  pub zone_short : length s < at + 13 → zone_at s at ≡ None
  unfolding zone_at
  zone_short h = ap (zone_found s at) (entry_short read_name make_zone s at h)

  module _ (there : at + 13 ≤ length s) where
    abbrev mark : ℕ
    mark = get_or s (at + 12) 0

    -- by what its mark and what follows read as
    by_tail : (f : Front (Option Name)) → read_name mark (drop (at + 13) s) ≡ f → zone_at s at ≡ zone_found s at (rest read_name make_zone s at f)
    unfolding zone_at
    by_tail f e = ap (zone_found s at) (entry_there read_name make_zone s at there ∙ ap (rest read_name make_zone s at) e)

    pub zone_unnamed : mark ≡ 0 → zone_at s at ≡ zone_made (offset_at s at) (start_at s at) None (at + 13)
    unfolding read_name
    zone_unnamed m =
        by_tail (Some (None, drop (at + 13) s)) (ap (λ (k : ℕ). read_name k (drop (at + 13) s)) m)
        ∙ ap (λ (k : ℕ). zone_made (offset_at s at) (start_at s at) None k) (place_drop s (at + 13) there)

    other_mark : (m : ℕ) → (m ≡ 0 → ⊥) → (m ≡ 1 → ⊥) → read_name m (drop (at + 13) s) ≡ None
    unfolding read_name
    other_mark zero p q = absurd (p refl)
    other_mark (suc zero) p q = absurd (q refl)
    other_mark (suc (suc m)) p q = refl

    pub zone_other_mark : (mark ≡ 0 → ⊥) → (mark ≡ 1 → ⊥) → zone_at s at ≡ None
    zone_other_mark p q = by_tail None (other_mark mark p q)

    -- a name's length byte and bytes
    name_read_lem : (f : Front (Option Name)) → mark ≡ 1
        → then (byte (drop (at + 13) s)) (λ n s₁. then (take_bytes n s₁) (λ name s₂. named (well_formed name) name s₂)) ≡ f
        → read_name mark (drop (at + 13) s) ≡ f
    unfolding read_name
    name_read_lem f m e = ap (λ (k : ℕ). read_name k (drop (at + 13) s)) m ∙ e

    pub zone_no_length : mark ≡ 1 → length s < at + 14 → zone_at s at ≡ None
    zone_no_length m h = by_tail None (name_read_lem None m (rw (no_byte s (at + 13) (omega arith))))

    module _ (m : mark ≡ 1) (long : at + 14 ≤ length s) where
      abbrev size : ℕ
      size = get_or s (at + 13) 0

      length_read : byte (drop (at + 13) s) ≡ Some (size, drop (at + 14) s)
      length_read = let e : at + 13 + 1 ≡ at + 14 = omega arith in byte_at s (at + 13) (omega arith) ∙ ap (λ (k : ℕ). Some (size, drop k s)) e

      pub zone_named_lem : fits_at s (at + 14) size ≡ true → well_formed (take size (drop (at + 14) s)) ≡ true
          → zone_at s at ≡ zone_made (offset_at s at) (start_at s at) (Some (record { at = at + 14; len = size })) (at + 14 + size)
      unfolding named
      zone_named_lem f w =
          let k = leb-true (at + 14 + size) (length s) f in
          let n = take size (drop (at + 14) s) in
          let l : length n ≡ size = length-take-le size (drop (at + 14) s) (omega (arith, length-drop (at + 14) s)) in
          by_tail (Some (Some n, drop (at + 14 + size) s)) (name_read_lem _ m (rw (length_read, front_fits size s (at + 14) k, w)))
          ∙ rw (l, place_drop s (at + 14 + size) k)

      pub zone_bad_name : text_at s (at + 14) size ≡ false → zone_at s at ≡ None
      unfolding text_at named
      zone_bad_name t =
          by_test (fits_at s (at + 14) size)
          (λ f. let k = leb-true (at + 14 + size) (length s) f in
          let w : well_formed (take size (drop (at + 14) s)) ≡ false = rw f at t in
          by_tail None (name_read_lem None m (rw (length_read, front_fits size s (at + 14) k, w))))
          (λ f. cut size refl (leb-false _ _ f))
        where
          -- a name of no bytes always fits
          cut : (n : ℕ) → size ≡ n → length s < at + 14 + size → zone_at s at ≡ None
          cut zero e h = absurd (omega arith)
          cut (suc n) e h = by_tail None (name_read_lem None m (rw (length_read, front_short size s (at + 14) (omega arith) h)))

-- ## A window

module _ (s : List ℕ) (at : ℕ) where
  pub window_short : length s < at + 13 → window_at s at ≡ None
  unfolding window_at
  window_short h = ap (window_found s) (entry_short read_until make_window s at h)

  module _ (there : at + 13 ≤ length s) where
    until_by : (f : Front (Option ℕ)) → read_until (get_or s (at + 12) 0) (drop (at + 13) s) ≡ f → window_at s at ≡ window_found s (rest read_until make_window s at f)
    unfolding window_at
    until_by f e = ap (window_found s) (entry_there read_until make_window s at there ∙ ap (rest read_until make_window s at) e)

    pub window_open : get_or s (at + 12) 0 ≡ 0 → window_at s at ≡ window_made (offset_at s at) (start_at s at) None (at + 13)
    unfolding read_until
    window_open m =
        until_by (Some (None, drop (at + 13) s)) (ap (λ (k : ℕ). read_until k (drop (at + 13) s)) m)
        ∙ ap (λ (k : ℕ). window_made (offset_at s at) (start_at s at) None k) (place_drop s (at + 13) there)

    other_end : (m : ℕ) → (m ≡ 0 → ⊥) → (m ≡ 1 → ⊥) → read_until m (drop (at + 13) s) ≡ None
    unfolding read_until
    other_end zero p q = absurd (p refl)
    other_end (suc zero) p q = absurd (q refl)
    other_end (suc (suc m)) p q = refl

    pub window_other_mark : (get_or s (at + 12) 0 ≡ 0 → ⊥) → (get_or s (at + 12) 0 ≡ 1 → ⊥) → window_at s at ≡ None
    window_other_mark p q = until_by None (other_end _ p q)

    pub window_cut : get_or s (at + 12) 0 ≡ 1 → length s < at + 13 + 8 → window_at s at ≡ None
    unfolding read_until
    window_cut m h = until_by None (ap (λ (k : ℕ). read_until k (drop (at + 13) s)) m ∙ rw (front_short 8 s (at + 13) (lit< tt) h))

    pub window_ended : get_or s (at + 12) 0 ≡ 1 → at + 13 + 8 ≤ length s
        → window_at s at ≡ window_made (offset_at s at) (start_at s at) (Some (number (take 8 (drop (at + 13) s)))) (at + 13 + 8)
    unfolding read_until
    window_ended m h =
        until_by (Some (Some (number (take 8 (drop (at + 13) s))), drop (at + 13 + 8) s))
        (ap (λ (k : ℕ). read_until k (drop (at + 13) s)) m ∙ rw (front_fits 8 s (at + 13) h))
        ∙ rw (place_drop s (at + 13 + 8) h)
