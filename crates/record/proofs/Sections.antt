-- Entries read one after another: what is left after each, and where the next one starts.
use Rattle.std.proofs.Common.{List, [], ◌∷◌, ◌≡◌, refl, sym, ap, ◌∙◌, ℕ, zero, suc, ◌+◌, ◌-◌, ◌≤◌, ◌<◌, length, drop, get_or, Option, None, Some, MatchOption, option_map, arith}
use Rattle.model.specs.Lists.{Zone, Window}
use Rattle.model.specs.Bytes.{Front, then, read_zone, read_window, read_all}
use Rattle.record.specs.declared.SectionRead.{SectionRead}
use Rattle.record.specs.declared.TimeZoneRead.{TimeZoneRead}
use Rattle.record.specs.declared.DSTOffsetRead.{DSTOffsetRead}
use Rattle.record.specs.Fronts.{place_of, place_left, section_found, section_at, zone_found, zone_at, window_found, window_at, next_zone, next_window}
use Rattle.record.specs.Entries.{EntryRead, ReadAt}
use Rattle.record.proofs.Front.{place_drop, byte_at, no_byte}
use Rattle.record.proofs.Suffix.{Leaves, left_place, zone_leaves, window_leaves}

-- a section of so many entries, and the place after it
abbrev pub entries : ℕ → ℕ → Option SectionRead
entries count next = Some (record { count = count; next = next })

-- ## Entries, over any reader of one

module _ {A : Type 0} (read_one : List ℕ → Front A) where
  -- what is left after some entries
  abbrev pub left_of : Front (List A) → Option (List ℕ)
  left_of f = option_map (λ p. p.1) f

  pub counted : (n : ℕ) (s : List ℕ) (xs : List A) (t : List ℕ) → read_all read_one n s ≡ Some (xs, t) → length xs ≡ n
  unfolding read_all
  counted zero s xs t h = let q : ◌≡◌ {A = List A × List ℕ} ([], s) (xs, t) = cc in sym (ap (λ p. length p.0) q)
  counted (suc n) s xs t h = go (λ u. counted n u) (read_one s) h
    where
      inner : (x : A) (f : Front (List A)) → ((ys : List A) (u : List ℕ) → f ≡ Some (ys, u) → length ys ≡ n)
          → then f (λ ys s₂. Some (x ∷ ys, s₂)) ≡ Some (xs, t) → length xs ≡ suc n
      inner x None ih k = cc
      inner x (Some p) ih k =
          let q : ◌≡◌ {A = List A × List ℕ} (x ∷ p.0, p.1) (xs, t) = cc in
          sym (ap (λ p. length p.0) q) ∙ ap suc (ih p.0 p.1 refl)

      go : ((u : List ℕ) (ys : List A) (v : List ℕ) → read_all read_one n u ≡ Some (ys, v) → length ys ≡ n) → (f : Front A)
          → then f (λ x s₁. then (read_all read_one n s₁) (λ ys s₂. Some (x ∷ ys, s₂))) ≡ Some (xs, t) → length xs ≡ suc n
      go ih None k = cc
      go ih (Some p) k = inner p.0 (read_all read_one n p.1) (ih p.1) k

  -- one entry less
  pub one_less : (n : ℕ) (s : List ℕ) (x : A) (t : List ℕ) → read_one s ≡ Some (x, t) → left_of (read_all read_one (suc n) s) ≡ left_of (read_all read_one n t)
  unfolding read_all
  one_less n s x t h = rw h (go (read_all read_one n t))
    where
      go : (f : Front (List A)) → left_of (then f (λ xs s₂. Some (x ∷ xs, s₂))) ≡ left_of f
      go None = refl
      go (Some p) = refl

  pub none_less : (n : ℕ) (s : List ℕ) → read_one s ≡ None → read_all read_one (suc n) s ≡ None
  unfolding read_all
  none_less n s h = rw h

  -- ## A loop over `n` of them from `from` on: `left` are still to be read, from `next` on

  pub record Reading (s : List ℕ) (from n left next : ℕ) : Type 0 where
    pub within : next ≤ length s
    pub same : left_of (read_all read_one n (drop from s)) ≡ left_of (read_all read_one left (drop next s))

  module _ (s : List ℕ) where
    pub begins : (from n : ℕ) → from ≤ length s → Reading s from n (n - 0) from
    begins from n h =
        let e : n ≡ n - 0 = omega arith in
        record { within = h; same = ap (λ (m : ℕ). left_of (read_all read_one m (drop from s))) e }

    module _ {from n : ℕ} (index : ℕ) {next : ℕ} (r : Reading s from n (n - index) next) where
      by_left : {o : Option (List ℕ)} → left_of (read_all read_one (n - index) (drop next s)) ≡ o → option_map (λ t. place_of s t) o ≡ place_left read_one s from n
      by_left e = sym (go (read_all read_one n (drop from s)) ∙ ap (option_map (λ t. place_of s t)) (r.same ∙ e))
        where
          go : (f : Front (List A)) → option_map (λ p. place_of s p.1) f ≡ option_map (λ t. place_of s t) (left_of f)
          go None = refl
          go (Some p) = refl

      more : index < n → left_of (read_all read_one (n - index) (drop next s)) ≡ left_of (read_all read_one (suc (n - (index + 1))) (drop next s))
      more l = let e : n - index ≡ suc (n - (index + 1)) = omega arith in ap (λ (m : ℕ). left_of (read_all read_one m (drop next s))) e

      pub stops : index < n → read_one (drop next s) ≡ None → None ≡ place_left read_one s from n
      stops l k = by_left (more l ∙ ap left_of (none_less (n - (index + 1)) (drop next s) k))

      pub goes_on_lem : index < n → {k : ℕ} → EntryRead read_one s next k → Reading s from n (n - (index + 1)) k
      goes_on_lem l {k} t = record { within = t.within; same = r.same ∙ more l ∙ one_less (n - (index + 1)) (drop next s) t.entry (drop k s) t.is }

      pub ends : n ≤ index → Some next ≡ place_left read_one s from n
      unfolding read_all
      ends l =
          let e : n - index ≡ 0 = omega arith in
          sym (ap Some (place_drop s next r.within)) ∙ by_left (ap (λ (m : ℕ). left_of (read_all read_one m (drop next s))) e)

    -- ## A section, by the place after its entries

    module _ (at : ℕ) where
      pub no_count : length s ≤ at → None ≡ section_at read_one s at
      unfolding section_at
      no_count h = rw (no_byte s at h)

      module _ {count : ℕ} (h : at < length s) (c : count ≡ get_or s at 0) where
        is_entries : section_at read_one s at ≡ section_found s (read_all read_one count (drop (at + 1) s))
        unfolding section_at
        is_entries = rw (byte_at s at h, c)

        pub no_section : None ≡ place_left read_one s (at + 1) count → None ≡ section_at read_one s at
        no_section e = go (read_all read_one count (drop (at + 1) s)) e ∙ sym is_entries
          where
            go : (f : Front (List A)) → None ≡ option_map (λ p. place_of s p.1) f → None ≡ section_found s f
            go None e = refl
            go (Some p) e = cc

        pub section_there : {k : ℕ} → Some k ≡ place_left read_one s (at + 1) count → entries count k ≡ section_at read_one s at
        section_there {k} e = go (read_all read_one count (drop (at + 1) s)) refl e ∙ sym is_entries
          where
            go : (f : Front (List A)) → read_all read_one count (drop (at + 1) s) ≡ f → Some k ≡ option_map (λ p. place_of s p.1) f → entries count k ≡ section_found s f
            go None q e = cc
            go (Some p) q e =
                let j : k ≡ place_of s p.1 = cc in
                rw (counted count (drop (at + 1) s) p.0 p.1 q) (ap (entries count) j)

-- ## What the answers of `zone_at` and `window_at` say

module _ {A : Type 0} (read_one : List ℕ → Front A) (leaves : Leaves read_one) (s : List ℕ) (at : ℕ) (h : at ≤ length s) where
  unfoldable pub entry_read : (x : A) (t : List ℕ) → read_one (drop at s) ≡ Some (x, t) → EntryRead read_one s at (place_of s t)
  entry_read x t e =
      let l = left_place s at t h (leaves (drop at s) x t e) in
      record { entry = x; is = e ∙ ap (λ (u : List ℕ). Some (x, u)) l.0; within = l.1 }

-- the clauses of an entry's reading, from its place alone
module _ {A E : Type 0} (read_one : List ℕ → Front A) (found_at : List ℕ → ℕ → Option E) (next_of : E → ℕ) (s : List ℕ) (at : ℕ) where
  abbrev pub Reads : Option E → Type 0
  Reads r = record { found : r ≡ found_at s at; read : ReadAt read_one next_of s at r }

pub zone_reads : (s : List ℕ) (at : ℕ) {r : Option TimeZoneRead} → r ≡ zone_at s at → Reads read_zone zone_at next_zone s at r
unfolding zone_at
zone_reads s at e = record { found = e; read = λ h. rw e (go h (read_zone (drop at s)) refl) }
  where
    go : at ≤ length s → (f : Front Zone) → read_zone (drop at s) ≡ f → MatchOption (zone_found s at f) (read_zone (drop at s) ≡ None) (λ z. EntryRead read_zone s at (next_zone z))
    go h None e = e
    go h (Some p) e = entry_read read_zone zone_leaves s at h p.0 p.1 e

pub window_reads : (s : List ℕ) (at : ℕ) {r : Option DSTOffsetRead} → r ≡ window_at s at → Reads read_window window_at next_window s at r
unfolding window_at
window_reads s at e = record { found = e; read = λ h. rw e (go h (read_window (drop at s)) refl) }
  where
    go : at ≤ length s → (f : Front Window) → read_window (drop at s) ≡ f → MatchOption (window_found s f) (read_window (drop at s) ≡ None) (λ w. EntryRead read_window s at (next_window w))
    go h None e = e
    go h (Some p) e = entry_read read_window window_leaves s at h p.0 p.1 e

-- the goals of `place_after` and of `section_at`
pub ruleset reading = (begins, stops, goes_on_lem, ends)

pub ruleset of_section = (no_count, no_section, section_there)
