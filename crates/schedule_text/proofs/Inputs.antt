-- What is printed for an input, by what is said of the record in it.
use Rattle.std.proofs.Common.{Option, None, Some, Result, Ok, Err, true, List, ◌≡◌, refl, sym, ap, ◌∙◌, ℕ, ◌≤◌, ◌<◌, arith, lt-ltb, le-ltb, length, take, drop, replicate}
use Rattle.std.proofs.Math.ListN.{length-replicate}
use Rattle.model.specs.declared.Refusal.{Refusal}
use Rattle.model.specs.Lists.{Lists, empty}
use Rattle.model.specs.Rules as M
use Rattle.model.specs.Rules.{allowed, largest}
use Rattle.model.specs.RoundTrip.{AreBytes}
use Rattle.model.specs.History.{Load, verdict, record_verdict, record_loaded, if_accepted, after}
use Rattle.model.specs.Store.{Store, store_loaded, load, store_after}
use Rattle.model.specs.Walk.{walk}
use Rattle.model.specs.Bytes.{number, read_record}
use Rattle.model.specs.Schedule.{walk_text, record_text, refused7, schedule}
use Rattle.rules.specs.Verdicts.{verdict_of, record_tested}
use Rattle.rules.proofs.Agree.{is_accepted, is_turned_down}
use Rattle.table.specs.Layout.{table_size, lists_in, store_in, new_table}
use Rattle.table.specs.Left.{new_left, load_said, load_left}
use Rattle.table.proofs.Made.{is_made}
use Rattle.table.proofs.Follows.{new_follows, load_follows}

-- ## A new table, and a record that is loaded into it

-- the store that a new table is
abbrev fresh : Store
fresh = record { rules = largest; lists = empty; generation = 0 }

-- the bytes that a table is made in
abbrev blank : List ℕ
blank = replicate table_size 0

module _ (t : List ℕ) (n : t ≡ new_left blank largest) where
  all_zeros : table_size ≤ length blank
  all_zeros = omega (arith, length-replicate {A = ℕ} table_size 0)

  any_allowed : allowed largest ≡ true
  unfolding allowed
  any_allowed = refl

  made : t ≡ new_table blank largest
  made = n ∙ rw (is_made blank largest all_zeros any_allowed) refl

  is_fresh : store_in t ≡ fresh
  is_fresh = ap store_in made ∙ (new_follows blank largest all_zeros any_allowed).store

  module _ (b : List ℕ) where
    -- what is said of the record is what the model says at the largest limits
    said_is : load_said t b ≡ verdict_of (verdict largest (Load (Some b)))
    unfolding load_said record_tested
    said_is = ap (λ (s : Store). verdict_of (verdict s.rules (Load (Some b)))) is_fresh

    -- an accepted record leaves its lists
    lists_are : AreBytes b → verdict largest (Load (Some b)) ≡ M.accepted → lists_in (load_left t b) ≡ record_loaded largest empty (read_record b)
    unfolding store_after load after
    lists_are a e =
        let h : table_size ≤ length t = omega (arith, ap length made, (new_follows blank largest all_zeros any_allowed).long, all_zeros) in
        ap (λ (s : Store). s.lists) (load_follows t b h a)
        ∙ ap (λ (s : Store). (store_after s (Load (Some b))).lists) is_fresh
        ∙ ap (λ (v : M.Verdict). (store_loaded fresh (Some b) v).state.lists) e

-- ## The text of a record

module _ (m : ℕ) where
  accepted_text : (f : Option Lists) → record_verdict largest f ≡ M.accepted → (k : Lists) → k ≡ record_loaded largest empty f → walk_text k (walk k m) ≡ record_text f m
  accepted_text None h k e = cc
  accepted_text (Some l) h k e =
      let i : k ≡ l = e ∙ ap (λ (v : M.Verdict). if_accepted v l empty) h in
      ap (λ (x : Lists). walk_text x (walk x m)) i ∙ sym (ap (λ (v : M.Verdict). if_accepted v (walk_text l (walk l m)) refused7) h)

  refused_text : (f : Option Lists) (cause : Refusal) → record_verdict largest f ≡ M.turned_down cause → refused7 ≡ record_text f m
  refused_text None cause h = refl
  refused_text (Some l) cause h = sym (ap (λ (v : M.Verdict). if_accepted v (walk_text l (walk l m)) refused7) h)

-- ## The text of an input

module _ (s : List ℕ) where
  pub too_short_lem : length s < 8 → refused7 ≡ schedule s
  unfolding schedule
  too_short_lem h = rw (lt-ltb (length s) 8 h)

  pub too_long : 970 < length s → refused7 ≡ schedule s
  unfolding schedule
  too_long h = rw (le-ltb (length s) 8 (omega arith), lt-ltb 970 (length s) h)

  module _ (h : 8 ≤ length s) (k : length s ≤ 970) where
    as_read : record_text (read_record (drop 8 s)) (number (take 8 s)) ≡ schedule s
    unfolding schedule
    as_read = rw (le-ltb (length s) 8 h, le-ltb 970 (length s) k)

    -- the bytes after the moment, loaded as a record into a new table
    module _ (t : List ℕ) (n : t ≡ new_left blank largest) (part : List ℕ) (p : part ≡ drop 8 s) (v : Result (Unit {0}) Refusal) (e : v ≡ load_said t part) where
      pub bad_record : (cause : Refusal) → v ≡ Err cause → refused7 ≡ schedule s
      unfolding verdict
      bad_record cause f =
          refused_text (number (take 8 s)) (read_record part) cause (is_turned_down (verdict largest (Load (Some part))) cause (sym (said_is t n part) ∙ sym e ∙ f))
          ∙ ap (λ (b : List ℕ). record_text (read_record b) (number (take 8 s))) p ∙ as_read

      pub good_record : v ≡ (Ok tt) → AreBytes part → (u : List ℕ) → u ≡ load_left t part → (m : ℕ) → m ≡ number (take 8 s) → walk_text (lists_in u) (walk (lists_in u) m) ≡ schedule s
      unfolding verdict
      good_record f a u l m g =
          let c = is_accepted (verdict largest (Load (Some part))) (sym (said_is t n part) ∙ sym e ∙ f) in
          accepted_text m (read_record part) c (lists_in u) (ap lists_in l ∙ lists_are t n part a c)
          ∙ ap (λ (x : ℕ). record_text (read_record part) x) g
          ∙ ap (λ (b : List ℕ). record_text (read_record b) (number (take 8 s))) p ∙ as_read
