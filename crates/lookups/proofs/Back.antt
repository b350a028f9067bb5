-- `rposition` over a slice: the last place that passes a test.
use denote.Param.Members.{Mut}
use Rattle.std.proofs.Common.{◌≡◌, refl, sym, ap, ◌∙◌, subst, ℕ, zero, suc, ◌+◌, ◌-◌, ◌<◌, Bool, true, false, cond, ltb, List, [], ◌∷◌, length, reverse, Option, Bor, Iter, MatchOption, option_map, unwrap_or, IfSome, take, drop, leb, ltb-true, ltb-false, lt-ltb, le-ltb, arith, None, Some, position}
use Rattle.std.proofs.lemmas.List.{reverse-append, length-reverse}
use Rattle.std.proofs.lemmas.Iterator.{YieldsList}
use Rattle.std.proofs.lemmas.Iterator.Consumers.{YieldsList-from_shown}
use Rattle.std.proofs.lemmas.Iterator.Search.{position_from_yields_List}
use Rattle.std.specs.Fn.{Called}
use Rattle.std.specs.Iterator.{YieldsThen}
use Rattle.std.specs.List.{FoldsTo, position_or_len}
use Rattle.std.specs.Option.{IsSomeAnd, UnwrapsOrElse}
use Rattle.std.specs.Slice.Iter.{iter_rest, iter_steps_back}
use Rattle.model.specs.Basics.{keep, last}
use Rattle.model.proofs.Facts.{by_test}
use Rattle.model.specs.Lookups.{started}
use Rattle.table.specs.Layout.{zone_place, zone_at, zone_count, zone_places, entries_from}
use Rattle.table.proofs.Counts.{zone_stands}
use Rattle.table.proofs.Places.{zone_in_place}
use Rattle.table.proofs.Sections.{length_entries}
use Rattle.lookups.specs.declared.ZoneShown.{ZoneShown}
use Rattle.lookups.specs.Shown.{blank_shown, shown_at, shown_by, active_index, zone_there}
use Rattle.lookups.proofs.Entries.{last_entry, last_index, last_hit, last_miss, last_below}
use Rattle.lookups.proofs.Places.{zone_of, passes}

-- ## From the end

backward : {A : Type 0} {s : Iter A} (ps : List A) → iter_rest s ≡ ps → YieldsList iter_steps_back (λ y. y.now) s (reverse ps)
backward {A} {s} ps e = subst (λ k. YieldsList iter_steps_back (λ y. y.now) s (reverse k)) e
    (YieldsList-from_shown iter_steps_back (λ y. y.now) (λ u. reverse (iter_rest u)) (λ u t p. length-reverse _ ∙ p.0)
    (λ u x t p. ap reverse p ∙ reverse-append (iter_rest t) (x.now ∷ [])) s)

-- a place counted from the end, from the front
abbrev pub turned : ℕ → Option ℕ → Option ℕ
turned n r = option_map (λ k. n - 1 - k) r

pub last_place : {A F : Type 0} {g : Mut F (Bor A × Unit {0}) Bool} {s u : Iter A} (f : F) (test : A → Bool) (ps : List A) (n : ℕ) (r : Option ℕ) → iter_rest s ≡ ps
    → (xs : List (Bor A)) × (o : Option (Bor A)) × (j : F) × YieldsThen iter_steps_back s xs o u × FoldsTo (λ p x q. Called g p (x, tt) false q) f xs j
    × MatchOption o (r ≡ None) (λ x. IsSomeAnd r (λ i. i + 1 + length xs ≡ n) × ((h : F) × Called g j (x, tt) true h))
    → ((x : Bor A) (b : Bool) (q : F) → Called g f (x, tt) b q → (q ≡ f) × (b ≡ test x.now))
    → n ≡ length ps → r ≡ turned (length ps) (position test (reverse ps))
last_place {u = u} f test ps n r e (xs, None, j, y, w, m) k l =
    m ∙ ap (turned (length ps)) (position_from_yields_List test u f None (xs, None, j, y, w, refl) (backward ps e) k)
last_place {u = u} f test ps n None e (xs, Some x, j, y, w, m) k l = absurd m.0
last_place {u = u} f test ps n (Some i) e (xs, Some x, j, y, w, m) k l =
    let a : i ≡ length ps - 1 - length xs = omega (arith, m.0) in
    ap Some a ∙ ap (turned (length ps)) (position_from_yields_List test u f (Some (length xs)) (xs, Some x, j, y, w, (refl, m.1)) (backward ps e) k)

-- ## Over the places of entries

module _ {A : Type 0} (test : A → Bool) where
  hit : (x : A) (xs : List A) → test x ≡ true → position test (x ∷ xs) ≡ Some 0
  hit x xs t = rw (t, lt-ltb 0 (length (x ∷ xs)) (omega arith)) refl

  miss : (x : A) (xs : List A) → test x ≡ false → position test (x ∷ xs) ≡ option_map suc (position test xs)
  miss x xs t = rw t (go (position_or_len test xs) (length xs))
    where
      go : (k l : ℕ) → cond (ltb (1 + k) (suc l)) (Some (1 + k)) None ≡ option_map suc (cond (ltb k l) (Some k) None)
      go k l =
          by_test (ltb k l)
          (λ e. let h = ltb-true k l e in let i : 1 + k ≡ suc k = omega arith in rw (e, lt-ltb (1 + k) (suc l) (omega arith)) (ap Some i))
          (λ e. let h = ltb-false k l e in rw (e, le-ltb (1 + k) (suc l) (omega arith)) refl)

turned_more : (n : ℕ) (r : Option ℕ) → turned (suc n) (option_map suc r) ≡ turned n r
turned_more n None = refl
turned_more n (Some k) = let e : suc n - 1 - suc k ≡ n - 1 - k = omega arith in ap Some e

pub last_of_places : {A : Type 0} (test : A → Bool) (place : ℕ → A) (passes : ℕ → Bool) (n : ℕ) → ((i : ℕ) → i < n → test (place i) ≡ passes i)
    → turned n (position test (reverse (entries_from place 0 n))) ≡ last_index passes n
unfolding keep last entries_from
last_of_places test place passes zero h = refl
last_of_places test place passes (suc n) h =
    let ps = entries_from place 0 n in
    let r : reverse (entries_from place 0 (suc n)) ≡ place n ∷ reverse ps = ap reverse (last_entry place n) ∙ reverse-append ps (place n ∷ []) in
    let e = h n (omega arith) in
    ap (λ l. turned (suc n) (position test l)) r
    ∙ by_test (passes n)
    (λ t.
    let z : suc n - 1 - 0 ≡ n = omega arith in
    ap (turned (suc n)) (hit test (place n) (reverse ps) (e ∙ t)) ∙ ap Some z ∙ sym (last_hit passes n t))
    (λ t.
    ap (turned (suc n)) (miss test (place n) (reverse ps) (e ∙ t)) ∙ turned_more n (position test (reverse ps))
    ∙ last_of_places test place passes n (λ i k. h i (omega arith)) ∙ sym (last_miss passes n t))

-- the active zone
pub active_is : (s : List ℕ) (now : ℕ) (ps : List (List ℕ)) → ps ≡ zone_places s
    → turned (length ps) (position (passes zone_of (started now)) (reverse ps)) ≡ active_index s now
unfolding zone_places active_index
active_is s now ps e =
    let place = λ (i : ℕ). take 80 (drop (zone_place i) s) in
    let test = passes zone_of (started now) in
    ap (λ l. turned (length l) (position test (reverse l))) e
    ∙ ap (λ n. turned n (position test (reverse (entries_from place 0 (zone_count s))))) (length_entries place 0 (zone_count s))
    ∙ last_of_places test place (λ i. leb (zone_at s (zone_place i)).start now) (zone_count s)
    (λ i h. let k = zone_stands s i h in ap (started now) (sym (zone_in_place s (zone_place i) (omega (arith, k.0, k.1)))))

pub active_found : (s : List ℕ) (now : ℕ) (r : Option ℕ) (o : Option ZoneShown) (z : ZoneShown) → r ≡ active_index s now
    → MatchOption r (o ≡ None) (λ i. o ≡ zone_there s i) → UnwrapsOrElse o (λ y. y ≡ blank_shown) z → z ≡ shown_by s (active_index s now)
unfolding active_index zone_there
active_found s now r o z e m u = ap (λ k. k) (go r (rw e (last_below (λ i. leb (zone_at s (zone_place i)).start now) (zone_count s))) m) ∙ ap (shown_by s) e
  where
    unwrapped : (p : Option ZoneShown) → UnwrapsOrElse p (λ y. y ≡ blank_shown) z → z ≡ unwrap_or p blank_shown
    unwrapped None w = w
    unwrapped (Some y) w = w

    go : (q : Option ℕ) → IfSome q (λ i. i < zone_count s) → MatchOption q (o ≡ None) (λ i. o ≡ cond (ltb i (zone_count s)) (Some (shown_at s (zone_place i))) None) → z ≡ shown_by s q
    go None h k = unwrapped o u ∙ ap (λ p. unwrap_or p blank_shown) k
    go (Some i) h k = unwrapped o u ∙ ap (λ p. unwrap_or p blank_shown) (k ∙ ap (λ b. cond b (Some (shown_at s (zone_place i))) None) (lt-ltb i (zone_count s) h))
