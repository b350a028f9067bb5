-- What stands at a place where an entry is readable.
use Rattle.std.proofs.Common.{Some, None, true, List, ◌≡◌, ℕ, ◌+◌, ◌≤◌, eqb, eqb-true, leb, leb-true, leb-false, length, take, drop, get_or}
use Rattle.std.proofs.lemmas.Bool.{eqb-false}
use Rattle.model.specs.Bytes.{number}
use Rattle.model.proofs.Facts.{by_test}
use Rattle.word.specs.Place.{text_at}
use Rattle.word.proofs.Places.{text_there}
use Rattle.record.specs.Fronts.{zone_at, window_at}
use Rattle.record.proofs.Front.{offset_at, start_at, zone_short, zone_other_mark, zone_no_length, zone_named_lem, zone_bad_name, window_short, window_other_mark, window_cut, window_ended}

-- a zone is readable at `at`, and a window
abbrev pub ZoneThere : List ℕ → ℕ → Type 0
ZoneThere s at = zone_at s at ≡ None → ⊥

abbrev pub WindowThere : List ℕ → ℕ → Type 0
WindowThere s at = window_at s at ≡ None → ⊥

-- ## A zone

module _ (s : List ℕ) (at : ℕ) (r : ZoneThere s at) where
  pub zone_head : at + 13 ≤ length s
  zone_head = by_test (leb (at + 13) (length s)) (λ e. leb-true _ _ e) (λ e. absurd (r (zone_short s at (leb-false _ _ e))))

  module _ (m : get_or s (at + 12) 0 ≡ 0 → ⊥) where
    zone_mark : get_or s (at + 12) 0 ≡ 1
    zone_mark =
        by_test (eqb (get_or s (at + 12) 0) 1) (λ e. eqb-true _ _ e) (λ e. absurd (r (zone_other_mark s at zone_head m (eqb-false _ _ e))))

    pub zone_length : at + 14 ≤ length s
    zone_length =
        by_test (leb (at + 14) (length s)) (λ e. leb-true _ _ e) (λ e. absurd (r (zone_no_length s at zone_head zone_mark (leb-false _ _ e))))

    abbrev size : ℕ
    size = get_or s (at + 13) 0

    name_there : text_at s (at + 14) size ≡ true
    name_there =
        by_test (text_at s (at + 14) size) (λ e. e) (λ e. absurd (r (zone_bad_name s at zone_head zone_mark zone_length e)))

    pub zone_end : at + 14 + size ≤ length s
    zone_end = leb-true (at + 14 + size) (length s) (text_there size s (at + 14) name_there).0

    pub zone_is : zone_at s at ≡ Some (record { offset = offset_at s at; valid_at = start_at s at; name = Some (record { at = at + 14; len = size }); next = at + 14 + size })
    zone_is = let t = text_there size s (at + 14) name_there in zone_named_lem s at zone_head zone_mark zone_length t.0 t.1

-- ## A window

module _ (s : List ℕ) (at : ℕ) (r : WindowThere s at) where
  pub window_head : at + 13 ≤ length s
  window_head = by_test (leb (at + 13) (length s)) (λ e. leb-true _ _ e) (λ e. absurd (r (window_short s at (leb-false _ _ e))))

  module _ (m : get_or s (at + 12) 0 ≡ 0 → ⊥) where
    window_mark : get_or s (at + 12) 0 ≡ 1
    window_mark =
        by_test (eqb (get_or s (at + 12) 0) 1) (λ e. eqb-true _ _ e) (λ e. absurd (r (window_other_mark s at window_head m (eqb-false _ _ e))))

    pub window_end : at + 13 + 8 ≤ length s
    window_end =
        by_test (leb (at + 13 + 8) (length s)) (λ e. leb-true _ _ e) (λ e. absurd (r (window_cut s at window_head window_mark (leb-false _ _ e))))

    pub window_is : window_at s at
        ≡ Some (record { offset = offset_at s at; valid_starting = start_at s at; valid_until = Some (number (take 8 (drop (at + 13) s))); next = at + 13 + 8 })
    window_is = window_ended s at window_head window_mark window_end
