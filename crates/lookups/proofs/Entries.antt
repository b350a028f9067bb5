-- Entries that stand one after another, by their indices.
use Rattle.std.proofs.Common.{◌≡◌, refl, ap, ◌∙◌, ℕ, zero, suc, ◌+◌, ◌<◌, Bool, true, false, cond, ltb, ltb-true, ltb-false, lt-ltb, le-ltb, List, [], ◌∷◌, ◌++◌, map, Option, arith, None, Some, slice_get, IfSome}
use Rattle.model.specs.Basics.{keep, last}
use Rattle.model.proofs.Facts.{by_test}
use Rattle.table.specs.Layout.{entries_from}

module _ {A : Type 0} (entry : ℕ → A) where
  -- the entry at an index, if it is there
  from_index : (k n i : ℕ) → slice_get (entries_from entry k n) i ≡ cond (ltb i n) (Some (entry (k + i))) None
  unfolding entries_from
  from_index k zero i = rw (le-ltb i 0 (omega arith))
  from_index k (suc n) zero = let e : k ≡ k + 0 = omega arith in rw (lt-ltb 0 (suc n) (omega arith)) (ap (λ j. Some (entry j)) e)
  from_index k (suc n) (suc i) =
      let e : suc k + i ≡ k + suc i = omega arith in
      from_index (suc k) n i
      ∙ by_test (ltb i n)
      (λ t. let h = ltb-true i n t in rw (t, lt-ltb (suc i) (suc n) (omega arith)) (ap (λ j. Some (entry j)) e))
      (λ t. let h = ltb-false i n t in rw (t, le-ltb (suc i) (suc n) (omega arith)) refl)

  pub listed : (n i : ℕ) → slice_get (entries_from entry 0 n) i ≡ cond (ltb i n) (Some (entry i)) None
  listed n i = let e : 0 + i ≡ i = omega arith in from_index 0 n i ∙ ap (λ j. cond (ltb i n) (Some (entry j)) None) e

  -- the entries are what their indices stand for
  pub by_index : (i n : ℕ) → entries_from entry i n ≡ map entry (entries_from (λ k. k) i n)
  unfolding entries_from
  by_index i zero = refl
  by_index i (suc n) = ap (λ (xs : List A). entry i ∷ xs) (by_index (suc i) n)

  one_more : (i n : ℕ) → entries_from entry i (suc n) ≡ entries_from entry i n ++ (entry (i + n) ∷ [])
  unfolding entries_from
  one_more i zero = let e : i ≡ i + 0 = omega arith in ap (λ (k : ℕ). entry k ∷ []) e
  one_more i (suc n) =
      let e : suc i + n ≡ i + suc n = omega arith in
      ap (λ (xs : List A). entry i ∷ xs) (one_more (suc i) n ∙ ap (λ (k : ℕ). entries_from entry (suc i) n ++ (entry k ∷ [])) e)

  -- the last entry of some
  pub last_entry : (n : ℕ) → entries_from entry 0 (suc n) ≡ entries_from entry 0 n ++ (entry n ∷ [])
  last_entry n = let e : 0 + n ≡ n = omega arith in one_more 0 n ∙ ap (λ (k : ℕ). entries_from entry 0 n ++ (entry k ∷ [])) e

last_end : {A : Type 0} (xs : List A) (x : A) → last (xs ++ (x ∷ [])) ≡ Some x
unfolding last
last_end [] x = refl
last_end (y ∷ []) x = refl
last_end (y ∷ (z ∷ xs)) x = last_end (z ∷ xs) x

module _ {A : Type 0} (test : A → Bool) where
  keep_more : (xs : List A) (x : A) → test x ≡ true → keep test (xs ++ (x ∷ [])) ≡ keep test xs ++ (x ∷ [])
  unfolding keep
  keep_more [] x t = rw t
  keep_more (y ∷ xs) x t =
      let ih = keep_more xs x t in
      by_test (test y) (λ e. rw (e, ih)) (λ e. rw (e, ih))

  keep_same : (xs : List A) (x : A) → test x ≡ false → keep test (xs ++ (x ∷ [])) ≡ keep test xs
  unfolding keep
  keep_same [] x t = rw t
  keep_same (y ∷ xs) x t =
      let ih = keep_same xs x t in
      by_test (test y) (λ e. rw (e, ih)) (λ e. rw (e, ih))

-- ## The last index that passes a test

module _ (test : ℕ → Bool) where
  abbrev pub last_index : ℕ → Option ℕ
  last_index n = last (keep test (entries_from (λ i. i) 0 n))

  pub last_hit : (n : ℕ) → test n ≡ true → last_index (suc n) ≡ Some n
  last_hit n t =
      let is = entries_from (λ i. i) 0 n in
      ap (λ l. last (keep test l)) (last_entry (λ i. i) n) ∙ ap last (keep_more test is n t) ∙ last_end (keep test is) n

  pub last_miss : (n : ℕ) → test n ≡ false → last_index (suc n) ≡ last_index n
  last_miss n t =
      ap (λ l. last (keep test l)) (last_entry (λ i. i) n) ∙ ap last (keep_same test (entries_from (λ i. i) 0 n) n t)

  -- it is below their number
  pub last_below : (n : ℕ) → IfSome (last_index n) (λ i. i < n)
  unfolding last keep entries_from
  last_below zero = tt
  last_below (suc n) =
      by_test (test n)
      (λ t. rw (last_hit n t) (omega arith))
      (λ t. rw (last_miss n t) (wider (last_index n) (last_below n)))
    where
      wider : (o : Option ℕ) → IfSome o (λ i. i < n) → IfSome o (λ i. i < suc n)
      wider None h = tt
      wider (Some i) h = omega arith
