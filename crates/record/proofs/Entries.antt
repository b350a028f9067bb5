-- What the answers for a zone and for a window are, by their heads and what follows.
use Rattle.std.proofs.Common.{Some, None, option_map, Bool, true, false, List, ◌≡◌, refl, sym, ap, ◌∙◌, ℕ, ◌+◌, ◌≤◌, ◌<◌, arith, leb-true, lt-ltb, le-ltb, ltb-true, ltb-false, ltb, ℤ, length, get_or}
use Rattle.std.specs.Bool.{then_some}
use Rattle.model.proofs.Facts.{by_test}
use Rattle.word.specs.Place.{number_at, text_at}
use Rattle.word.proofs.Places.{text_there}
use Rattle.word.proofs.Answers.{u64_present, u64_missing}
use Rattle.record.specs.declared.entry.Head.{Head}
use Rattle.record.specs.declared.NamePlace.{NamePlace}
use Rattle.record.specs.Fronts.{head_at, name_there, zone_at, window_at}
use Rattle.record.proofs.Front.{zone_made, window_made, zone_short, zone_unnamed, zone_other_mark, zone_no_length, zone_named_lem, zone_bad_name, window_short, window_open, window_other_mark, window_cut, window_ended}
use Rattle.record.proofs.Heads.{There, head_found, head_missing}

-- ## A name, by its length byte and whether its bytes are well-formed

module _ (s : List ℕ) (at : ℕ) where
  pub name_past : length s ≤ at → name_there s at ≡ None
  unfolding name_there
  name_past h = rw (le-ltb at (length s) h)

  pub name_is : at < length s → {n : ℕ} → n ≡ get_or s at 0 → (b : Bool) → text_at s (at + 1) n ≡ b → name_there s at ≡ then_some b (record { at = at + 1; len = n })
  unfolding name_there
  name_is h e true t = rw (lt-ltb at (length s) h, ← e, t)
  name_is h e false t = rw (lt-ltb at (length s) h, ← e, t)

-- ## By the head at a place

module _ (s : List ℕ) (at : ℕ) where
  pub no_zone : None ≡ head_at s at → None ≡ zone_at s at
  no_zone e = sym (zone_short s at (head_missing s at (sym e)))

  pub no_window : None ≡ head_at s at → None ≡ window_at s at
  no_window e = sym (window_short s at (head_missing s at (sym e)))

  module _ (h : Head) (e : Some h ≡ head_at s at) where
    there : There s at h
    there = head_found s at h (sym e)

    mark_is : {m : ℕ} → h.mark ≡ m → get_or s (at + 12) 0 ≡ m
    mark_is k = sym (ap (λ (x : Head). x.mark) there.is) ∙ k

    other_mark : {m : ℕ} → (h.mark ≡ m → ⊥) → get_or s (at + 12) 0 ≡ m → ⊥
    other_mark k q = k (ap (λ (x : Head). x.mark) there.is ∙ q)

    pub within : at + 13 ≤ length s
    within = there.there

    pub zone_plain : {o : ℤ} → o ≡ h.offset → h.mark ≡ 0 → zone_made o h.start None (at + 13) ≡ zone_at s at
    zone_plain k m = rw (k, there.is) (sym (zone_unnamed s at within (mark_is m)))

    pub zone_unknown : (h.mark ≡ 0 → ⊥) → (h.mark ≡ 1 → ⊥) → None ≡ zone_at s at
    zone_unknown k l = sym (zone_other_mark s at within (other_mark k) (other_mark l))

    pub window_plain : {o : ℤ} → o ≡ h.offset → h.mark ≡ 0 → window_made o h.start None (at + 13) ≡ window_at s at
    window_plain k m = rw (k, there.is) (sym (window_open s at within (mark_is m)))

    pub window_unknown : (h.mark ≡ 0 → ⊥) → (h.mark ≡ 1 → ⊥) → None ≡ window_at s at
    window_unknown k l = sym (window_other_mark s at within (other_mark k) (other_mark l))

    module _ (m : h.mark ≡ 1) where
      size : ℕ
      size = get_or s (at + 13) 0

      pub window_short_end : None ≡ number_at 8 s (at + 13) → None ≡ window_at s at
      window_short_end k = sym (window_cut s at within (mark_is m) (u64_missing s (at + 13) k))

      pub window_with_end : {o : ℤ} {u : ℕ} → o ≡ h.offset → Some u ≡ number_at 8 s (at + 13) → window_made o h.start (Some u) (at + 21) ≡ window_at s at
      window_with_end {o} {u} k l =
          let p = u64_present s (at + 13) u l in
          let q : at + 21 ≡ at + 13 + 8 = omega arith in
          rw (k, there.is, p.is, q) (sym (window_ended s at within (mark_is m) p.there))

      -- the name is there, or the zone is unreadable
      pub zone_by_name : {o : ℤ} → o ≡ h.offset
          → option_map (λ (p : NamePlace). record { offset = o; valid_at = h.start; name = Some p; next = p.at + p.len }) (name_there s (at + 13)) ≡ zone_at s at
      zone_by_name {o} k =
          let x : at + 13 + 1 ≡ at + 14 = omega arith in
          by_test (ltb (at + 13) (length s))
          (λ t. let l = ltb-true (at + 13) (length s) t in
          by_test (text_at s (at + 14) (get_or s (at + 13) 0))
          (λ u. let w = text_there (get_or s (at + 13) 0) s (at + 14) u in
          let n : name_there s (at + 13) ≡ Some (record { at = at + 13 + 1; len = get_or s (at + 13) 0 }) = name_is s (at + 13) l refl true (rw x u) in
          rw (n, x, k, there.is) (sym (zone_named_lem s at within (mark_is m) (omega arith) w.0 w.1)))
          (λ u. let n : name_there s (at + 13) ≡ None = name_is s (at + 13) l refl false (rw x u) in
          rw n (sym (zone_bad_name s at within (mark_is m) (omega arith) u))))
          (λ t. let l = ltb-false (at + 13) (length s) t in
          rw (name_past s (at + 13) l) (sym (zone_no_length s at within (mark_is m) (omega arith))))

      pub zone_nameless : None ≡ name_there s (at + 13) → None ≡ zone_at s at
      zone_nameless n = rw (← n) at (zone_by_name refl)

      pub zone_with_name : {o : ℤ} {p : NamePlace} → o ≡ h.offset → Some p ≡ name_there s (at + 13) → zone_made o h.start (Some p) (p.at + p.len) ≡ zone_at s at
      zone_with_name k n = rw (← n) at (zone_by_name k)

-- the name that is there fits
pub name_end : (s : List ℕ) (at : ℕ) {p : NamePlace} → Some p ≡ name_there s at → p.at + p.len ≤ length s
name_end s at {p} e =
    by_test (ltb at (length s))
    (λ t. by_test (text_at s (at + 1) (get_or s at 0))
    (λ u. let w = text_there (get_or s at 0) s (at + 1) u in
    let n : Some p ≡ Some (record { at = at + 1; len = get_or s at 0 }) = e ∙ name_is s at (ltb-true at (length s) t) refl true u in
    let q : p ≡ record { at = at + 1; len = get_or s at 0 } = cc in
    rw q (leb-true (at + 1 + get_or s at 0) (length s) w.0))
    (λ u. let n : Some p ≡ None = e ∙ name_is s at (ltb-true at (length s) t) refl false u in cc))
    (λ t. let n : Some p ≡ None = e ∙ name_past s at (ltb-false at (length s) t) in cc)

-- the goals of `read_at`
pub ruleset of_zone = (within, no_zone, zone_nameless, name_end)

pub ruleset of_window = (within, no_window, window_short_end)
