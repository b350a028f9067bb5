-- Where a section ends as it is read: entry `index` stands at `next`.
use Rattle.std.proofs.Common.{List, ◌≡◌, refl, sym, ap, ◌∙◌, ℕ, suc, ◌+◌, ◌-◌, ◌≤◌, ◌<◌, length, drop, get_or, Option, None, Some, option_map, arith}
use Rattle.model.specs.Bytes.{Front, read_all}
use Rattle.record.specs.Fronts.{place_of, place_left, section_at}
use Rattle.record.specs.Entries.{EntryRead}
use Rattle.record.proofs.Front.{place_drop}
use Rattle.record.proofs.Sections as R
use Rattle.record.proofs.Sections.{left_of, none_less, one_less}
use Rattle.rules.specs.Entries.{end_read}

module _ {A : Type 0} (read_one : List ℕ → Front A) (s : List ℕ) where
  -- the place after some entries, by what is left
  by_left : (f : Front (List A)) → option_map (λ p. place_of s p.1) f ≡ option_map (λ t. place_of s t) (left_of read_one f)
  by_left None = refl
  by_left (Some p) = refl

  place_more : (n : ℕ) {at k : ℕ} → EntryRead read_one s at k → place_left read_one s at (suc n) ≡ place_left read_one s k n
  place_more n {at} {k} e =
      by_left (read_all read_one (suc n) (drop at s)) ∙ ap (option_map (λ t. place_of s t)) (one_less read_one n (drop at s) e.entry (drop k s) e.is)
      ∙ sym (by_left (read_all read_one n (drop k s)))

  module _ (at : ℕ) where
    abbrev ended : Option ℕ
    ended = end_read (section_at read_one s at)

    pub no_section : length s ≤ at → None ≡ ended
    no_section h = ap end_read (R.no_count read_one s at h)

    -- the entries from `next` on say where it ends
    pub record Rest (count index next : ℕ) : Type 0 where
      pub within : next ≤ length s
      pub same : place_left read_one s next (count - index) ≡ ended

    pub opens : {count : ℕ} → at < length s → count ≡ get_or s at 0 → Rest count 0 (at + 1)
    opens {count} h c =
        let e : count - 0 ≡ count = omega arith in
        record { within = omega (arith, h); same = ap (place_left read_one s (at + 1)) e ∙ go (place_left read_one s (at + 1) count) refl }
      where
        go : (o : Option ℕ) → o ≡ place_left read_one s (at + 1) count → o ≡ ended
        go None q = ap end_read (R.no_section read_one s at h c q)
        go (Some k) q = ap end_read (R.section_there read_one s at h c q)

    module _ {count index next : ℕ} (r : Rest count index next) where
      pub closes : count ≤ index → Some next ≡ ended
      unfolding read_all
      closes l =
          let e : count - index ≡ 0 = omega (arith, l) in
          sym (ap Some (place_drop s next r.within)) ∙ ap (place_left read_one s next) (sym e) ∙ r.same

      module _ (l : index < count) where
        more : count - index ≡ suc (count - (index + 1))
        more = omega (arith, l)

        pub breaks : (next ≤ length s → read_one (drop next s) ≡ None) → None ≡ ended
        breaks k =
            ap (option_map (λ (p : List A × List ℕ). place_of s p.1)) (sym (none_less read_one (count - (index + 1)) (drop next s) (k r.within)))
            ∙ ap (place_left read_one s next) (sym more) ∙ r.same

        pub passes : {k : ℕ} → (next ≤ length s → EntryRead read_one s next k) → Rest count (index + 1) k
        passes k = let e = k r.within in record { within = e.within; same = sym (place_more (count - (index + 1)) e) ∙ ap (place_left read_one s next) (sym more) ∙ r.same }

        -- those behind an entry are passed over
        by_last : {k : ℕ} → (next ≤ length s → EntryRead read_one s next k) → {o : Option ℕ} → (k ≤ length s → o ≡ place_left read_one s k (count - index - 1)) → o ≡ ended
        by_last {k} e p =
            let f = passes e in
            let j : count - index - 1 ≡ count - (index + 1) = omega arith in
            p f.within ∙ ap (place_left read_one s k) j ∙ f.same

        module _ {k m : ℕ} (e : next ≤ length s → EntryRead read_one s next k) (q : m ≡ k) where
          pub unplaced : (m ≤ length s → None ≡ place_left read_one s m (count - index - 1)) → None ≡ ended
          unplaced p = by_last e (rw q at p)

          pub placed : {n : ℕ} → (m ≤ length s → Some n ≡ place_left read_one s m (count - index - 1)) → Some n ≡ ended
          placed p = by_last e (rw q at p)

-- the goals of `section`
pub ruleset ending = (no_section, opens, closes, breaks, passes, unplaced)
