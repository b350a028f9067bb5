-- What is looked up in the places of the entries is what is looked up in the lists.
use Rattle.std.proofs.Common.{◌≡◌, refl, sym, ap, ◌∙◌, ℕ, suc, ◌≤◌, Bool, true, false, cond, ◌||◌, eqb, ℤ, List, [], ◌∷◌, ◌++◌, length, map, reverse, fold, Option, Bor, MatchOption, option_map, unwrap_or, arith, ne_eqb, ltb, eqb-true, eq-eqb, ltb-true, ltb-false, ◌+◌, min, take, drop, not, ◌==◌, is_some, IfSome, None, Some, slice_get}
use Rattle.std.proofs.lemmas.List.{reverse-append}
use Rattle.std.proofs.lemmas.List.Folds.{find-append, list_any-append}
use Rattle.std.proofs.lemmas.Option.{slice_get_past, slice_get_read}
use Rattle.std.specs.List.{find, list_any}
use Rattle.std.specs.Bool.{then_some}
use Rattle.std.specs.Slice.{IsItemAt}
use Rattle.std.specs.Option.{option_or, IsSomeAnd}
use Rattle.model.specs.Basics.{keep, any, first, last}
use Rattle.model.specs.Lists.{Zone, Window}
use Rattle.model.specs.Lookups as L
use Rattle.model.proofs.Facts.{by_test}
use Rattle.word.specs.Place.{byte_at, word_at}
use Rattle.table.specs.Layout.{zone_place, window_place, zone_count, window_count, zone_at, window_at, zone_places, window_places, zones_in, windows_in, lists_in}
use Rattle.table.proofs.Counts.{zone_stands, window_stands}
use Rattle.table.proofs.Places.{byte_in, lists_by_places, zone_in_place, window_in_place}
use Rattle.record.specs.declared.NamePlace.{NamePlace}
use Rattle.lookups.specs.declared.DSTOffsetEntry.{DSTOffsetEntry}
use Rattle.lookups.specs.declared.ZoneShown.{ZoneShown}
use Rattle.lookups.specs.Shown.{blank_shown, window_shown, window_listed_in, zone_there, zone_listed_in}
use Rattle.lookups.specs.Transitions.{sooner, soonest}
use Rattle.lookups.proofs.Entries.{listed}
use Rattle.lookups.proofs.Soonest.{past_end}

-- the zone and the window in a place
abbrev pub zone_of : List ℕ → Zone
zone_of p = zone_at p 0

abbrev pub window_of : List ℕ → Window
window_of p = window_at p 0

-- ## The first, the last and some entry that passes a test

module _ {B : Type 0} where
  last_cons : (y : B) (l : List B) → last (y ∷ l) ≡ option_or (last l) (Some y)
  unfolding last
  last_cons y [] = refl
  last_cons y (z ∷ []) = refl
  last_cons y (z ∷ (v ∷ l)) = last_cons z (v ∷ l) ∙ sym (ap (λ o. option_or o (Some y)) (last_cons z (v ∷ l)) ∙ or_twice (last (v ∷ l)))
    where
      or_twice : (o : Option B) → option_or (option_or o (Some z)) (Some y) ≡ option_or o (Some z)
      or_twice None = refl
      or_twice (Some x) = refl

module _ {A B : Type 0} (f : A → B) where
  or_map : (o u : Option A) → option_map f (option_or o u) ≡ option_or (option_map f o) (option_map f u)
  or_map None u = refl
  or_map (Some x) u = refl

  or_none : (o : Option B) → option_or o None ≡ o
  or_none None = refl
  or_none (Some x) = refl

  backward : (x : A) (xs : List A) → reverse (x ∷ xs) ≡ reverse xs ++ (x ∷ [])
  backward x xs = reverse-append (x ∷ []) xs

  module _ (test : B → Bool) where
    abbrev pub passes : A → Bool
    passes x = test (f x)

    first_found : (xs : List A) → option_map f (find passes xs) ≡ first (keep test (map f xs))
    unfolding first keep
    first_found [] = refl
    first_found (x ∷ xs) = by_test (passes x) (λ e. rw e refl) (λ e. rw e (first_found xs))

    last_found : (xs : List A) → option_map f (find passes (reverse xs)) ≡ last (keep test (map f xs))
    unfolding last keep
    last_found [] = refl
    last_found (x ∷ xs) =
        ap (λ l. option_map f (find passes l)) (backward x xs) ∙ ap (option_map f) (find-append passes (reverse xs) (x ∷ []))
        ∙ or_map (find passes (reverse xs)) (find passes (x ∷ [])) ∙ ap (λ o. option_or o (option_map f (find passes (x ∷ [])))) (last_found xs)
        ∙ by_test (passes x) (λ e. rw e (sym (last_cons (f x) (keep test (map f xs))))) (λ e. rw e (or_none (last (keep test (map f xs)))))

    any_found : (xs : List A) → list_any passes (reverse xs) ≡ any test (map f xs)
    unfolding any
    any_found [] = refl
    any_found (x ∷ xs) =
        ap (list_any passes) (backward x xs) ∙ list_any-append passes (reverse xs) (x ∷ []) ∙ ap (λ b. b || (passes x || false)) (any_found xs)
        ∙ turned (passes x) (any test (map f xs))
      where
        turned : (a b : Bool) → b || (a || false) ≡ a || b
        turned true true = refl
        turned true false = refl
        turned false true = refl
        turned false false = refl

-- ## The soonest moment

module _ (utc : ℕ) where
  -- a start more, and the two moments of a window more
  abbrev pub past_start : ℕ → List ℕ → ℕ
  past_start best p = sooner utc best (word_at 8 p 4)

  abbrev pub past_both : ℕ → List ℕ → ℕ
  past_both best p = sooner utc (past_start best p) (unwrap_or (window_of p).until 0)

  over_zones : (best : ℕ) (ps : List (List ℕ)) → fold past_start best ps ≡ soonest utc best (L.zone_starts (map zone_of ps))
  unfolding soonest L.zone_starts
  over_zones best [] = refl
  over_zones best (p ∷ ps) = over_zones (past_start best p) ps

  over_windows : (best : ℕ) (ps : List (List ℕ)) → fold past_both best ps ≡ soonest utc best (L.window_bounds (map window_of ps))
  unfolding soonest L.window_bounds
  over_windows best [] = refl
  over_windows best (p ∷ ps) =
      over_windows (past_both best p) ps ∙ sym (past_end utc (past_start best p) (window_of p).until (L.window_bounds (map window_of ps)))

  pub zones_past : (s : List ℕ) (best : ℕ) → fold past_start best (zone_places s) ≡ soonest utc best (L.zone_starts (zones_in s))
  zones_past s best = over_zones best (zone_places s) ∙ ap (λ zs. soonest utc best (L.zone_starts zs)) (sym (lists_by_places s).zones)

  pub windows_past : (s : List ℕ) (best : ℕ) → fold past_both best (window_places s) ≡ soonest utc best (L.window_bounds (windows_in s))
  windows_past s best = over_windows best (window_places s) ∙ ap (λ ws. soonest utc best (L.window_bounds ws)) (sym (lists_by_places s).windows)

-- ## Windows

module _ (s : List ℕ) where
  windows_are : windows_in s ≡ map window_of (window_places s)
  windows_are = (lists_by_places s).windows

  -- windows that are found in their places
  module _ (test : Window → Bool) where
    pub first_window : option_map window_of (find (passes window_of test) (window_places s)) ≡ first (keep test (windows_in s))
    first_window = first_found window_of test (window_places s) ∙ ap (λ ws. first (keep test ws)) (sym windows_are)

    pub last_window : option_map window_of (find (passes window_of test) (reverse (window_places s))) ≡ last (keep test (windows_in s))
    last_window = last_found window_of test (window_places s) ∙ ap (λ ws. last (keep test ws)) (sym windows_are)

    pub some_window : list_any (passes window_of test) (reverse (window_places s)) ≡ any test (windows_in s)
    some_window = any_found window_of test (window_places s) ∙ ap (any test) (sym windows_are)

-- what is made of the place that was found
pub made : {X Y : Type 0} (h : X → Y) (P : X → Y → Type 0) (r : Option X) (o : Option Y) → MatchOption r (o ≡ None) (λ x. IsSomeAnd o (P x))
    → ((x : X) (y : Y) → P x y → y ≡ h x) → o ≡ option_map h r
made h P None o e k = e
made h P (Some x) None e k = absurd e
made h P (Some x) (Some y) e k = ap Some (k x y e)

-- the offset of a window that was found
pub offset_found : (r : Option (Bor (List ℕ))) → option_map (λ y. (window_of y.now).offset) r ≡ L.offset_of (option_map window_of (option_map (λ y. y.now) r))
offset_found None = refl
offset_found (Some y) = refl

-- no window is there exactly where their number is 0
pub none_there : (s : List ℕ) (ps : List (List ℕ)) (b : Bool) → ps ≡ window_places s → b ≡ eqb (length ps) 0 → b ≡ L.table_empty (lists_in s)
unfolding L.table_empty
none_there s ps b p e = e ∙ counted ps ∙ ap (λ qs. L.is_empty (map window_of qs)) p ∙ ap L.is_empty (sym (windows_are s))
  where
    counted : (qs : List (List ℕ)) → eqb (length qs) 0 ≡ L.is_empty (map window_of qs)
    counted [] = refl
    counted (q ∷ qs) = ne_eqb (suc (length qs)) 0 (λ h. let z : ◌≡◌ {A = ℕ} (suc (length qs)) 0 = h in absurd (omega arith))

-- ## At an index

-- what is made of the item that `get` answers
item : {Y : Type 0} (h : List ℕ → Y) (ps qs : List (List ℕ)) (i : ℕ) (r : Option (Bor (List ℕ))) → ps ≡ qs → IsItemAt ps i r
    → option_map (λ y. h y.now) r ≡ option_map h (slice_get qs i)
item h ps qs i None e k = ap (option_map h) (sym (slice_get_past ps i k.3) ∙ ap (λ l. slice_get l i) e)
item h ps qs i (Some y) e k = ap (option_map h) (sym (slice_get_read ps (length ps) i y.now refl k.3.0 k.1) ∙ ap (λ l. slice_get l i) e)

-- the window at an index is what is shown of its place, if it has one
pub window_listed : (s : List ℕ) (i : ℕ) → window_listed_in s i ≡ option_map (λ p. window_shown (window_of p)) (slice_get (window_places s) i)
unfolding window_places window_listed_in
window_listed s i =
    let n = window_count s in
    let p = λ (j : ℕ). take 24 (drop (window_place j) s) in
    sym (ap (option_map (λ q. window_shown (window_of q))) (listed p n i)
    ∙ by_test (ltb i n)
    (λ t.
    let h = window_stands s i (ltb-true i n t) in
    rw t (ap (λ w. Some (window_shown w)) (sym (window_in_place s (window_place i) (omega (arith, h.0, h.1))))))
    (λ t. rw t refl))

-- the same of what `get` answers of the places and `map` makes of it
pub window_read : (s : List ℕ) (ps : List (List ℕ)) (i : ℕ) (r : Option (Bor (List ℕ))) (o : Option DSTOffsetEntry) → ps ≡ window_places s → IsItemAt ps i r
    → MatchOption r (o ≡ None) (λ x. IsSomeAnd o (λ w. w ≡ window_shown (window_of x.now))) → o ≡ window_listed_in s i
window_read s ps i r o e k m =
    made (λ y. window_shown (window_of y.now)) (λ x w. w ≡ window_shown (window_of x.now)) r o m (λ x w h. h)
    ∙ item (λ p. window_shown (window_of p)) ps (window_places s) i r e k ∙ sym (window_listed s i)

-- the zone with an index, by its place
abbrev pub name_made : ℕ → ℕ → ℕ → Option NamePlace
name_made i m n = cond (not (m == 0)) (Some (record { at = zone_place i + 14; len = min n 64 })) None

abbrev pub zone_made : ℕ → Zone → Option NamePlace → ZoneShown
zone_made i z n = record { offset = z.offset; valid_at = z.start; name = n }

abbrev pub zone_shown : ℕ → List ℕ → ZoneShown
zone_shown i p = zone_made i (zone_of p) (name_made i (byte_at p 12) (byte_at p 13))

zone_there_is : (s : List ℕ) (i : ℕ) → option_map (zone_shown i) (slice_get (zone_places s) i) ≡ zone_there s i
unfolding zone_places zone_there
zone_there_is s i =
    let n = zone_count s in
    let at = zone_place i in
    let p = λ (j : ℕ). take 80 (drop (zone_place j) s) in
    ap (option_map (zone_shown i)) (listed p n i)
    ∙ by_test (ltb i n)
    (λ t.
    let h = zone_stands s i (ltb-true i n t) in
    let k : at + 80 ≤ length s = omega (arith, h.0, h.1) in
    rw t
    (sym (ap (λ z. Some (zone_made i z (name_made i (byte_at s (at + 12)) (byte_at s (at + 13))))) (zone_in_place s at k)
    ∙ ap (λ b. Some (zone_made i (zone_of (p i)) (name_made i b (byte_at s (at + 13))))) (byte_in s 80 at k 12 (omega arith))
    ∙ ap (λ b. Some (zone_made i (zone_of (p i)) (name_made i (byte_at (p i) 12) b))) (byte_in s 80 at k 13 (omega arith)))))
    (λ t. rw t refl)

pub zone_read : (s : List ℕ) (ps : List (List ℕ)) (i : ℕ) (r : Option (Bor (List ℕ))) → ps ≡ zone_places s → IsItemAt ps i r
    → option_map (λ y. zone_shown i y.now) r ≡ zone_there s i
zone_read s ps i r e k = item (zone_shown i) ps (zone_places s) i r e k ∙ zone_there_is s i

pub shown_parts : {o o' : ℤ} {t t' : ℕ} {n n' : Option NamePlace} → o ≡ o' → t ≡ t' → n ≡ n'
    → ◌≡◌ {A = ZoneShown} (record { offset = o; valid_at = t; name = n }) (record { offset = o'; valid_at = t'; name = n' })
shown_parts p q r = cc

-- a name that is made where the mark is set
pub named : (i : ℕ) (p : List ℕ) (r : Option NamePlace) → is_some r ≡ not (byte_at p 12 == 0) → IfSome r (λ n. n ≡ record { at = zone_place i + 14; len = min (byte_at p 13) 64 })
    → r ≡ name_made i (byte_at p 12) (byte_at p 13)
named i p None e h = rw (sym e) refl
named i p (Some n) e h = rw (sym e) (ap Some h)

-- an empty list shows one zone
pub listed_is : (s : List ℕ) (i : ℕ) (z : ZoneShown) (r o m : Option ZoneShown) → z ≡ blank_shown → r ≡ zone_there s i → o ≡ then_some (eqb i 0) z → m ≡ option_or r o
    → m ≡ zone_listed_in s i
unfolding zone_there zone_listed_in
listed_is s i z r o m b e k l =
    let n = zone_count s in
    l
    ∙ rw (e, k)
    (by_test (ltb i n)
    (λ t. rw t refl)
    (λ t.
    let h = ltb-false i n t in
    by_test (eqb i 0)
    (λ u. let z = eqb-true i 0 u in rw (t, u, eq-eqb n 0 (omega arith)) (ap Some b))
    (λ u. by_test (eqb n 0) (λ v. rw (t, u, v) refl) (λ v. rw (t, u, v) refl))))
