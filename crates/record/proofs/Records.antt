-- A record, by the sections that a reader took one after the other.
use Rattle.std.proofs.Common.{Option, None, Some, Bool, true, false, List, ◌≡◌, refl, sym, ap, ◌∙◌, ℕ, eqb, length}
use Rattle.std.specs.Bool.{then_some}
use Rattle.record.specs.declared.SectionRead.{SectionRead}
use Rattle.model.specs.Bytes.{Front}
use Rattle.record.specs.Fronts.{section_at, zones_at, windows_at, count_of, moved_to, is_whole, windows_found, zones_found, record_at}
use Rattle.record.proofs.Sections.{entries}

-- ## A section that a reader took of `s` from `at` on, by its count and where the reader stands

module _ {A : Type 0} (read_one : List ℕ → Front A) {s t : List ℕ} {at from : ℕ} (e : t ≡ s) (f : from ≡ at) where
  same : section_at read_one t from ≡ section_at read_one s at
  same = rw (e, f) refl

  pub not_taken : None ≡ count_of (section_at read_one t from) → section_at read_one s at ≡ None
  not_taken c = sym same ∙ go (section_at read_one t from) c
    where
      go : (r : Option SectionRead) → None ≡ count_of r → r ≡ None
      go None k = refl
      go (Some x) k = cc

  pub taken : {n k : ℕ} → Some n ≡ count_of (section_at read_one t from) → k ≡ moved_to from (section_at read_one t from) → section_at read_one s at ≡ entries n k
  taken {n} {k} c m = sym same ∙ go (section_at read_one t from) c m
    where
      go : (r : Option SectionRead) → Some n ≡ count_of r → k ≡ moved_to from r → r ≡ entries n k
      go None c m = cc
      go (Some x) c m =
          let q : n ≡ x.count = cc in
          ap (λ (m : ℕ). entries m x.next) (sym q) ∙ ap (entries n) (sym m)

module _ (s : List ℕ) where
  pub no_zones : zones_at s 0 ≡ None → record_at s ≡ None
  unfolding record_at
  no_zones e = ap (zones_found s) e

  module _ {n at : ℕ} (z : zones_at s 0 ≡ entries n at) where
    pub by_windows : record_at s ≡ windows_found n at (is_whole (length s) (windows_at s at))
    unfolding record_at
    by_windows = ap (zones_found s) z

    pub no_windows : windows_at s at ≡ None → record_at s ≡ None
    no_windows e = by_windows ∙ ap (λ (w : Option SectionRead). windows_found n at (is_whole (length s) w)) e

    pub both_taken : {m k : ℕ} → windows_at s at ≡ entries m k → (b : Bool) → eqb k (length s) ≡ b → record_at s ≡ then_some b (record { zones = n; at = at; windows = m })
    both_taken {m} {k} e b t = by_windows ∙ ap (λ (w : Option SectionRead). windows_found n at (is_whole (length s) w)) e ∙ go b t
      where
        go : (b : Bool) → eqb k (length s) ≡ b → windows_found n at (is_whole (length s) (entries m k)) ≡ then_some b (record { zones = n; at = at; windows = m })
        go true t = rw t
        go false t = rw t

-- the goals of `record`
pub ruleset of_record = (no_zones, no_windows, both_taken, not_taken, taken)
