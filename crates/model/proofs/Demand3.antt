-- Demand 3 over the definitions: any calls, any limits, any starting moment.
use Rattle.std.proofs.Common.{Option, None, Some, Bool, true, false, cond, List, [], ◌∷◌, ◌≡◌, refl, sym, ap, ◌∙◌, ℕ, ◌≤◌, leb-true}
use Rattle.std.proofs.lemmas.Bool.{and_parts}
use Rattle.model.specs.declared.Refusal.TheVariants.{BadLimits}
use Rattle.model.specs.Basics.{run}
use Rattle.model.specs.Lists.{Zone, Window, Lists, empty}
use Rattle.model.specs.Answers.{refused, answers}
use Rattle.model.specs.Rules.{Rules, allowed, Verdict, accepted, turned_down, test_zones, test_windows}
use Rattle.model.specs.Bytes.{read_zones, read_windows, read_record}
use Rattle.model.specs.History.{Call, SetTimeZone, SetDSTOffset, Load, FactoryReset, zones_verdict, record_verdict, load_verdict, verdict, after}
use Rattle.model.specs.Store.{Store, new, time_zone_set, set_time_zone, windows_tested, windows_read, set_dst_offset, store_loaded, load, factory_reset, store_after}
use Rattle.model.specs.Output.{SizedCall, no_space, after_sized, store_after_sized}
use Rattle.model.specs.Demand3.{Accepted, Demand3, Demand3Holds, Demand3Sized}
use Rattle.model.proofs.Facts.{by_test, All-of, run_keeps}
use Rattle.model.proofs.Accepted.{kept_empty, kept_after, few_later}
use Rattle.model.proofs.Windows.{at_most_one}
use Rattle.model.proofs.Whole.{whole}

-- a store that follows a call: its rules stay, and its lists are what the call makes of them
record Follows (s : Store) (c : Call) (t : Store) : Type 0 where
  rules : t.rules ≡ s.rules
  lists : t.lists ≡ after s.rules s.lists c

module _ (s : Store) where
  zones_tested_lem : (bytes : List ℕ) (zs : List Zone) → read_zones bytes ≡ Some zs → (v : Verdict) → test_zones s.rules zs ≡ v
      → Follows s (SetTimeZone bytes) (time_zone_set s bytes v).state
  unfolding after
  zones_tested_lem bytes zs e accepted h = record { rules = refl; lists = refl }
  zones_tested_lem bytes zs e (turned_down cause) h = record { rules = refl; lists = rw (e, h) }

  zones_read : (bytes : List ℕ) (o : Option (List Zone)) → read_zones bytes ≡ o
      → Follows s (SetTimeZone bytes) (time_zone_set s bytes (zones_verdict s.rules o)).state
  unfolding after
  zones_read bytes None e = record { rules = refl; lists = rw e }
  zones_read bytes (Some zs) e = zones_tested_lem bytes zs e (test_zones s.rules zs) refl

  windows_tested_lem : (bytes : List ℕ) (v : Verdict) → Follows s (SetDSTOffset bytes) (windows_tested s bytes v).state
  windows_tested_lem bytes accepted = record { rules = refl; lists = refl }
  windows_tested_lem bytes (turned_down cause) = record { rules = refl; lists = refl }

  windows_read_lem : (bytes : List ℕ) (o : Option (List Window)) → read_windows bytes ≡ o → Follows s (SetDSTOffset bytes) (windows_read s bytes o).state
  unfolding after
  windows_read_lem bytes None e = record { rules = refl; lists = rw e }
  windows_read_lem bytes (Some ws) e = windows_tested_lem bytes (test_windows s.rules ws)

  record_tested_lem : (bytes : List ℕ) (l : Lists) → read_record bytes ≡ Some l → (v : Verdict) → record_verdict s.rules (Some l) ≡ v
      → Follows s (Load (Some bytes)) (store_loaded s (Some bytes) v).state
  unfolding after
  record_tested_lem bytes l e accepted h = record { rules = refl; lists = refl }
  record_tested_lem bytes l e (turned_down cause) h = record { rules = refl; lists = rw (e, h) }

  record_read_lem : (bytes : List ℕ) (o : Option Lists) → read_record bytes ≡ o
      → Follows s (Load (Some bytes)) (store_loaded s (Some bytes) (record_verdict s.rules o)).state
  unfolding after
  record_read_lem bytes None e = record { rules = refl; lists = rw e }
  record_read_lem bytes (Some l) e = record_tested_lem bytes l e (record_verdict s.rules (Some l)) refl

  loads : (stored : Option (List ℕ)) → Follows s (Load stored) (store_loaded s stored (load_verdict s.rules stored)).state
  unfolding after
  loads None = record { rules = refl; lists = refl }
  loads (Some bytes) = record_read_lem bytes (read_record bytes) refl

  follows : (c : Call) → Follows s c (store_after s c)
  unfolding store_after set_time_zone set_dst_offset load factory_reset verdict
  follows (SetTimeZone bytes) = zones_read bytes (read_zones bytes) refl
  follows (SetDSTOffset bytes) = windows_read_lem bytes (read_windows bytes) refl
  follows (Load stored) = loads stored
  follows FactoryReset = record { rules = refl; lists = refl }

-- what a new store is
record New (r : Rules) (s : Store) : Type 0 where
  rules : s.rules ≡ r
  lists : s.lists ≡ empty
  room : 1 ≤ r.zone_limit

made : (r : Rules) (s : Store) (t : Bool) → allowed r ≡ t
    → cond t (answers (record { rules = r; lists = empty; generation = 0 })) (refused BadLimits) ≡ answers s → New r s
unfolding allowed
made r s true e h =
    let q : record { rules = r; lists = empty; generation = 0 } ≡ s = cc in
    record { rules = sym (ap (λ (x : Store). x.rules) q); lists = sym (ap (λ (x : Store). x.lists) q); room = leb-true 1 r.zone_limit (and_parts _ _ e).0 }
made r s false e h = cc

is_new : (r : Rules) (s : Store) → new r ≡ answers s → New r s
unfolding new
is_new r s h = made r s (allowed r) refl h

-- ## Any step that keeps a store's rules and does to its lists what a step on lists does

module _ {C : Type 0} (step : Store → C → Store) (lists_step : Rules → Lists → C → Lists)
    (rules : (s : Store) (c : C) → (step s c).rules ≡ s.rules)
    (lists : (s : Store) (c : C) → (step s c).lists ≡ lists_step s.rules s.lists c)
    (keeps : (r : Rules) (l : Lists) (c : C) → Accepted r l → Accepted r (lists_step r l c)) where
  run_lists : (s : Store) (cs : List C) → (run step s cs).lists ≡ run (lists_step s.rules) s.lists cs
  unfolding run
  run_lists s [] = refl
  run_lists s (c ∷ cs) =
      run_lists (step s c) cs ∙ ap (λ (r : Rules). run (lists_step r) (step s c).lists cs) (rules s c)
      ∙ ap (λ (l : Lists). run (lists_step s.rules) l cs) (lists s c)

  from_new : (r : Rules) (s₀ : Store) → new r ≡ answers s₀ → (cs : List C) (s : ℕ) → Demand3 r (run step s₀ cs) (run (lists_step r) empty cs) s
  from_new r s₀ h cs s =
      let n = is_new r s₀ h in
      let l = run (lists_step r) empty cs in
      let k = run_keeps (lists_step r) (Accepted r) (λ c. Unit {0}) (λ l c q p. keeps r l c p) empty cs (All-of (λ c. Unit {0}) (λ c. tt) cs) (kept_empty r) in
      record {
        lists = run_lists s₀ cs ∙ ap (λ (x : Rules). run (lists_step x) s₀.lists cs) n.rules ∙ ap (λ (x : Lists). run (lists_step r) x cs) n.lists;
        taken = k;
        one = λ now. (at_most_one r l now k.windows).same;
        whole = whole l r s (few_later r l s n.room k);
      }

pub demand3 : Demand3Holds
demand3 r s₀ h calls s = from_new store_after after (λ s c. (follows s c).rules) (λ s c. (follows s c).lists) kept_after r s₀ h calls s

-- ## With calls for which NoSpace may be due

pub kept_sized : (r : Rules) (l : Lists) (a : SizedCall) → Accepted r l → Accepted r (after_sized r l a)
unfolding after_sized
kept_sized r l a k = by_test (no_space r l a) (λ e. rw e k) (λ e. rw e (kept_after r l a.call k))

pub rules_sized : (s : Store) (a : SizedCall) → (store_after_sized s a).rules ≡ s.rules
unfolding store_after_sized
rules_sized s a = by_test (no_space s.rules s.lists a) (λ e. rw e) (λ e. rw e (follows s a.call).rules)

pub lists_sized : (s : Store) (a : SizedCall) → (store_after_sized s a).lists ≡ after_sized s.rules s.lists a
unfolding store_after_sized after_sized
lists_sized s a = by_test (no_space s.rules s.lists a) (λ e. rw e) (λ e. rw e (follows s a.call).lists)

pub demand3_sized : Demand3Sized
demand3_sized r s₀ h calls s = from_new store_after_sized after_sized rules_sized lists_sized kept_sized r s₀ h calls s
