-- A section that is tested as it is read: entry `index` stands at `next`, behind the entry `last`.
use Rattle.std.proofs.Common.{Bool, true, false, not, List, ◌∷◌, ◌≡◌, refl, sym, ap, ◌∙◌, ℕ, suc, ◌+◌, ◌-◌, ◌≤◌, ◌<◌, eqb, length, get_or, Option, None, Some, Result, Ok, is_err, option_map, option_and_then, arith, lt-ltb, le-ltb}
use Rattle.model.specs.declared.Refusal.{Refusal}
use Rattle.model.specs.declared.Refusal.TheVariants.{ResourceExhausted}
use Rattle.model.specs.Rules.{Verdict, accepted, turned_down, demand, and_then, test_from}
use Rattle.record.specs.Fronts.{entries_at, place_after}
use Rattle.rules.specs.declared.rule.Tested.{Tested}
use Rattle.rules.specs.Verdicts.{verdict_of}
use Rattle.rules.specs.Entries.{entry_rule, entry_tested, section_tested}

module _ {E : Type 0} (found_at : List ℕ → ℕ → Option E) (next_of : E → ℕ) (keeps : ℕ → Option E → E → Bool) (limit : ℕ) (s : List ℕ) where
  -- what is said of some entries from an index on, and the place after them
  abbrev pub said : ℕ → Option E → Option (List E × ℕ) → Option Tested
  said index last f = option_map (λ (p : List E × ℕ). record { verdict = verdict_of (test_from limit (entry_rule keeps) index last p.0); next = p.1 }) f

  abbrev found : ℕ → ℕ → Option (List E × ℕ)
  found at n = entries_at found_at next_of s at n

  abbrev with_front : E → Option (List E × ℕ) → Option (List E × ℕ)
  with_front e f = option_map (λ (p : List E × ℕ). (e ∷ p.0, p.1)) f

  -- the verdict on an entry, as it is answered
  abbrev one : ℕ → Option E → E → Verdict
  one index last e = demand (not (eqb index limit)) ResourceExhausted (entry_rule keeps index last e)

  test_more : (index : ℕ) (last : Option E) (e : E) (es : List E)
      → test_from limit (entry_rule keeps) index last (e ∷ es) ≡ and_then (one index last e) (test_from limit (entry_rule keeps) (suc index) (Some e) es)
  unfolding test_from demand and_then
  test_more index last e es = go (not (eqb index limit)) (entry_rule keeps index last e) (test_from limit (entry_rule keeps) (suc index) (Some e) es)
    where
      go : (b : Bool) (w rest : Verdict) → demand b ResourceExhausted (and_then w rest) ≡ and_then (demand b ResourceExhausted w) rest
      go true w rest = refl
      go false w rest = refl

  -- an entry that keeps the rule leaves it to those behind it
  said_on : (index : ℕ) (last : Option E) (e : E) → false ≡ is_err (entry_tested keeps limit index last e) → (f : Option (List E × ℕ))
      → said index last (with_front e f) ≡ said (suc index) (Some e) f
  unfolding and_then
  said_on index last e k None = refl
  said_on index last e k (Some p) =
      ap (λ (v : Verdict). Some (record { verdict = verdict_of v; next = p.1 }))
      (test_more index last e p.0 ∙ go (one index last e) k (test_from limit (entry_rule keeps) (suc index) (Some e) p.0))
    where
      go : (v : Verdict) → false ≡ is_err (verdict_of v) → (rest : Verdict) → and_then v rest ≡ rest
      go accepted k rest = refl
      go (turned_down cause) k rest = cc

  -- the first that does not decides
  said_last : (index : ℕ) (last : Option E) (e : E) → true ≡ is_err (entry_tested keeps limit index last e) → (f : Option (List E × ℕ))
      → said index last (with_front e f) ≡ option_map (λ (p : List E × ℕ). record { verdict = entry_tested keeps limit index last e; next = p.1 }) f
  unfolding and_then
  said_last index last e k None = refl
  said_last index last e k (Some p) =
      ap (λ (v : Verdict). Some (record { verdict = verdict_of v; next = p.1 }))
      (test_more index last e p.0 ∙ go (one index last e) k (test_from limit (entry_rule keeps) (suc index) (Some e) p.0))
    where
      go : (v : Verdict) → true ≡ is_err (verdict_of v) → (rest : Verdict) → and_then v rest ≡ v
      go accepted k rest = cc
      go (turned_down cause) k rest = refl

  -- ## Where the loop stands

  module _ (at : ℕ) where
    abbrev tested : Option Tested
    tested = section_tested found_at next_of keeps limit s at

    pub no_count : length s ≤ at → None ≡ tested
    unfolding section_tested
    no_count h = rw (le-ltb at (length s) h)

    -- the entries from `next` on decide
    pub record Ahead (count index next : ℕ) (last : Option E) : Type 0 where
      pub same : tested ≡ said index last (found next (count - index))

    pub begins : {count : ℕ} → at < length s → count ≡ get_or s at 0 → Ahead count 0 (at + 1) None
    unfolding section_tested
    begins {count} h c =
        let e : count - 0 ≡ get_or s at 0 = omega (arith, c) in
        record { same = rw (lt-ltb at (length s) h, e) refl }

    module _ {count index next : ℕ} {last : Option E} (a : Ahead count index next last) where
      pub ends : count ≤ index → Some (record { verdict = Ok tt; next = next }) ≡ tested
      unfolding entries_at test_from
      ends l =
          let e : count - index ≡ 0 = omega (arith, l) in
          sym (a.same ∙ ap (λ (n : ℕ). said index last (found next n)) e)

      module _ (l : index < count) where
        -- the entries behind one
        abbrev behind : E → Option (List E × ℕ)
        behind e = found (next_of e) (count - (index + 1))

        by_first : tested ≡ said index last (option_and_then (λ (e : E). with_front e (behind e)) (found_at s next))
        unfolding entries_at
        by_first =
            let e : count - index ≡ suc (count - (index + 1)) = omega (arith, l) in
            a.same ∙ ap (λ (n : ℕ). said index last (found next n)) e

        pub stops : None ≡ found_at s next → None ≡ tested
        stops e = sym (by_first ∙ ap (λ (f : Option E). said index last (option_and_then (λ (e : E). with_front e (behind e)) f)) (sym e))

        module _ {entry : E} (e : Some entry ≡ found_at s next) {v : Result (Unit {0}) Refusal} (d : v ≡ entry_tested keeps limit index last entry) where
          by_entry : tested ≡ said index last (with_front entry (behind entry))
          by_entry = by_first ∙ ap (λ (f : Option E). said index last (option_and_then (λ (e : E). with_front e (behind e)) f)) (sym e)

          pub goes_on_lem : false ≡ is_err v → Ahead count (index + 1) (next_of entry) (Some entry)
          goes_on_lem k =
              let j : suc index ≡ index + 1 = omega arith in
              record { same = by_entry ∙ said_on index last entry (k ∙ ap is_err d) (behind entry) ∙ ap (λ (i : ℕ). said i (Some entry) (behind entry)) j }

          abbrev ended : ℕ → Tested
          ended n = record { verdict = v; next = n }

          -- the first that fails, by where those behind it end
          by_last : {o : Option ℕ} → true ≡ is_err v → o ≡ place_after found_at next_of s (next_of entry) (count - index - 1) → option_map ended o ≡ tested
          by_last k p =
              let j : count - index - 1 ≡ count - (index + 1) = omega arith in
              ap (option_map ended) (p ∙ ap (place_after found_at next_of s (next_of entry)) j) ∙ go (behind entry)
              ∙ sym (by_entry ∙ said_last index last entry (k ∙ ap is_err d) (behind entry))
            where
              go : (f : Option (List E × ℕ)) → option_map ended (option_map (λ (p : List E × ℕ). p.1) f) ≡ option_map (λ (p : List E × ℕ). record { verdict = entry_tested keeps limit index last entry; next = p.1 }) f
              go None = refl
              go (Some p) = ap (λ (w : Result (Unit {0}) Refusal). Some (record { verdict = w; next = p.1 })) d

          pub unread : true ≡ is_err v → None ≡ place_after found_at next_of s (next_of entry) (count - index - 1) → None ≡ tested
          unread k p = by_last k p

          pub refused : {n : ℕ} → true ≡ is_err v → Some n ≡ place_after found_at next_of s (next_of entry) (count - index - 1) → Some (ended n) ≡ tested
          refused k p = by_last k p

-- the goals of `section`
pub ruleset walking = (no_count, begins, stops, goes_on_lem, unread, refused, ends)
