-- A request and a record, from what is said of their sections.
use Rattle.std.proofs.Common.{Bool, Bor, cond, List, [], ◌∷◌, ◌≡◌, refl, sym, ap, ap₂, ◌∙◌, ℕ, ◌<◌, ◌≢◌, eqb, length, drop, Option, None, Some, Result, Err, option_map, arith, eq-eqb, ne_eqb}
use Rattle.std.specs.Bool.{then_some}
use Rattle.std.specs.Result.{result_and, result_or}
use Rattle.model.specs.declared.Refusal.{Refusal}
use Rattle.model.specs.declared.Refusal.TheVariants.{Unreadable, BadRecord}
use Rattle.model.specs.Lists.{Zone, Window, Lists}
use Rattle.model.specs.Rules.{Rules, Verdict, accepted, turned_down, and_then, test_from, test_zones, test_windows, zone_rule, window_rule}
use Rattle.model.specs.Bytes.{Front, then, nothing_left, whole, read_zone, read_window, read_section, read_zones, read_windows, read_record}
use Rattle.model.specs.History.{as_bad_record, record_verdict, verdict}
use Rattle.record.specs.Fronts.{place_of, zone_at, window_at, next_zone, next_window}
use Rattle.record.proofs.Suffix.{left_place, zone_leaves}
use Rattle.record.proofs.Meaning.{section_leaves}
use Rattle.rules.specs.declared.rule.Tested.{Tested}
use Rattle.rules.specs.Numbers.{zone_passes}
use Rattle.rules.specs.Verdicts.{verdict_of, list_verdict, zones_tested, windows_tested, record_tested}
use Rattle.rules.specs.Entries.{section_tested, verdict_in, moved_to, whole_tested, request_tested, lists_tested}
use Rattle.rules.proofs.Shown.{section_said, window_keeps, zones_said, windows_said}

-- what is lent is one slice of bytes
pub bytes_of : {x y : Bor (List ℕ)} → x ≡ y → x.now ≡ y.now
bytes_of e = ap (λ (z : Bor (List ℕ)). z.now) e

-- ## A section that a reader took of `s` from `at` on, by its verdict and where the reader stands

module _ {E : Type 0} (found_at : List ℕ → ℕ → Option E) (next_of : E → ℕ) (keeps : ℕ → Option E → E → Bool) (limit : ℕ) {s t : List ℕ} {at from : ℕ} (e : t ≡ s) (f : from ≡ at) where
  same : section_tested found_at next_of keeps limit t from ≡ section_tested found_at next_of keeps limit s at
  same = rw (e, f) refl

  pub not_taken : None ≡ verdict_in (section_tested found_at next_of keeps limit t from) → section_tested found_at next_of keeps limit s at ≡ None
  not_taken c = sym same ∙ go (section_tested found_at next_of keeps limit t from) c
    where
      go : (r : Option Tested) → None ≡ verdict_in r → r ≡ None
      go None k = refl
      go (Some x) k = cc

  pub taken : {v : Result (Unit {0}) Refusal} {k : ℕ} → Some v ≡ verdict_in (section_tested found_at next_of keeps limit t from)
      → k ≡ moved_to from (section_tested found_at next_of keeps limit t from) → section_tested found_at next_of keeps limit s at ≡ Some (record { verdict = v; next = k })
  taken {v} {k} c m = sym same ∙ go (section_tested found_at next_of keeps limit t from) c m
    where
      go : (r : Option Tested) → Some v ≡ verdict_in r → k ≡ moved_to from r → r ≡ Some (record { verdict = v; next = k })
      go None c m = cc
      go (Some x) c m = let q : v ≡ x.verdict = cc in rw (q, m) refl

-- ## A request

module _ {E : Type 0} (found_at : List ℕ → ℕ → Option E) (next_of : E → ℕ) (keeps : ℕ → Option E → E → Bool) (limit : ℕ) (s : List ℕ) where
  pub unread : section_tested found_at next_of keeps limit s 0 ≡ None → request_tested found_at next_of keeps limit s ≡ Err Unreadable
  unfolding request_tested
  unread e = ap (whole_tested (length s)) e

  pub by_end : {t : Tested} → section_tested found_at next_of keeps limit s 0 ≡ Some t → {b : Bool} → b ≡ eqb t.next (length s)
      → request_tested found_at next_of keeps limit s ≡ cond b t.verdict (Err Unreadable)
  unfolding request_tested
  by_end {t} e {b} f = ap (whole_tested (length s)) e ∙ ap (λ (x : Bool). cond x t.verdict (Err Unreadable)) (sym f)

-- where a section is read, a byte is there
section_long : {A : Type 0} (read_one : List ℕ → Front A) (s : List ℕ) (f : List A × List ℕ) → read_section read_one s ≡ Some f → 0 < length s
section_long read_one [] f e = cc
section_long read_one (b ∷ s) f e = omega arith

module _ {A E : Type 0} (read_one : List ℕ → Front A) (limit : ℕ) (rule : ℕ → Option A → A → Verdict)
    (found_at : List ℕ → ℕ → Option E) (next_of : E → ℕ) (keeps : ℕ → Option E → E → Bool) (s : List ℕ)
    (is : section_tested found_at next_of keeps limit s 0 ≡ section_said read_one limit rule s (read_section read_one s)) where
  asked : request_tested found_at next_of keeps limit s ≡ verdict_of (list_verdict limit rule (whole (read_section read_one s)))
  unfolding request_tested
  asked = ap (whole_tested (length s)) is ∙ go (read_section read_one s) refl
    where
      by : 0 < length s → (xs : List A) (left : List ℕ)
          → whole_tested (length s) (Some (record { verdict = verdict_of (test_from limit rule 0 None xs); next = place_of s left })) ≡ verdict_of (list_verdict limit rule (nothing_left xs left))
      by n xs [] = let k : place_of s [] ≡ length s = omega arith in rw (eq-eqb (place_of s []) (length s) k) refl
      by n xs (b ∷ left) = let k : place_of s (b ∷ left) ≢ length s = λ q. omega (arith, q, n) in rw (ne_eqb (place_of s (b ∷ left)) (length s) k) refl

      go : (f : Front (List A)) → read_section read_one s ≡ f → whole_tested (length s) (section_said read_one limit rule s f) ≡ verdict_of (list_verdict limit rule (whole f))
      go None q = refl
      go (Some f) q = by (section_long read_one s f q) f.0 f.1

pub zones_asked : (limit : ℕ) (s : List ℕ) → request_tested zone_at next_zone zone_passes limit s ≡ zones_tested limit s
unfolding zones_tested read_zones
zones_asked limit s = asked read_zone limit zone_rule zone_at next_zone zone_passes s (zones_said limit s 0)

pub windows_asked : (limit : ℕ) (s : List ℕ) → request_tested window_at next_window window_keeps limit s ≡ windows_tested limit s
unfolding windows_tested read_windows
windows_asked limit s = asked read_window limit window_rule window_at next_window window_keeps s (windows_said limit s 0)

-- ## A record

both_said : (a b : Verdict) → result_and (verdict_of a) (verdict_of b) ≡ verdict_of (and_then a b)
unfolding and_then
both_said accepted b = refl
both_said (turned_down cause) b = refl

module _ (zone_limit window_limit : ℕ) (s : List ℕ) where
  abbrev rules : Rules
  rules = record { zone_limit = zone_limit; window_limit = window_limit }

  abbrev zones : Option Tested
  zones = section_tested zone_at next_zone zone_passes zone_limit s 0

  abbrev windows : ℕ → Option Tested
  windows at = section_tested window_at next_window window_keeps window_limit s at

  abbrev said : Option (Result (Unit {0}) Refusal)
  said = lists_tested zone_limit window_limit s

  -- what is said of lists that were read, where nothing is left over
  abbrev of_lists : Front Lists → Option (Result (Unit {0}) Refusal)
  of_lists f = option_map (λ l. verdict_of (and_then (test_zones rules l.zones) (test_windows rules l.windows))) (whole f)

  -- some zones with the windows that were read behind them
  abbrev with_windows : List Zone → Front (List Window) → Front Lists
  with_windows zs f = then f (λ ws left. Some (record { zones = zs; windows = ws }, left))

  abbrev with_zones : Front (List Zone) → Front Lists
  with_zones f = then f (λ zs left. with_windows zs (read_section read_window left))

  pub no_zones : zones ≡ None → said ≡ None
  unfolding lists_tested read_record
  no_zones e = go (read_section read_zone s) (sym (zones_said zone_limit s 0) ∙ e)
    where
      go : (f : Front (List Zone)) → section_said read_zone zone_limit zone_rule s f ≡ None → of_lists (with_zones f) ≡ None
      go None e = refl
      go (Some f) e = cc

  -- the zones that were tested, and what is said by the windows behind them
  record Behind (t : Tested) : Type 0 where
    pub zs : List Zone
    pub long : 0 < length s
    pub verdict : t.verdict ≡ verdict_of (test_zones rules zs)
    pub is : said ≡ of_lists (with_windows zs (read_section read_window (drop t.next s)))

  behind : {t : Tested} → zones ≡ Some t → Behind t
  unfolding lists_tested read_record test_zones
  behind {t} e = go (read_section read_zone s) refl (sym (zones_said zone_limit s 0) ∙ e)
    where
      go : (f : Front (List Zone)) → read_section read_zone s ≡ f → section_said read_zone zone_limit zone_rule s f ≡ Some t → Behind t
      go None q h = record { zs = []; long = cc; verdict = cc; is = cc }
      go (Some f) q h =
          let left = left_place s 0 f.1 (omega arith) (section_leaves read_zone zone_leaves s f.0 f.1 q) in
          let j : t ≡ record { verdict = verdict_of (test_zones rules f.0); next = place_of s f.1 } = cc in
          record {
            zs = f.0;
            long = section_long read_zone s f q;
            verdict = ap (λ (x : Tested). x.verdict) j;
            is =
                ap (λ (g : Front (List Zone)). of_lists (with_zones g)) q
                ∙ ap (λ (u : List ℕ). of_lists (with_windows f.0 (read_section read_window u))) left.0
                ∙ ap (λ (k : ℕ). of_lists (with_windows f.0 (read_section read_window (drop k s)))) (sym (ap (λ (x : Tested). x.next) j));
          }

  module _ {t : Tested} (e : zones ≡ Some t) where
    pub no_windows : windows t.next ≡ None → said ≡ None
    no_windows w = (behind e).is ∙ go (read_section read_window (drop t.next s)) (sym (windows_said window_limit s t.next) ∙ w)
      where
        go : (f : Front (List Window)) → section_said read_window window_limit window_rule s f ≡ None → of_lists (with_windows (behind e).zs f) ≡ None
        go None w = refl
        go (Some f) w = cc

    pub both_tested : {u : Tested} → windows t.next ≡ Some u → {b : Bool} → b ≡ eqb u.next (length s) → said ≡ then_some b (result_and t.verdict u.verdict)
    unfolding test_windows
    both_tested {u} w {b} q =
        (behind e).is ∙ go (read_section read_window (drop t.next s)) (sym (windows_said window_limit s t.next) ∙ w)
        ∙ ap (λ (x : Bool). then_some x (result_and t.verdict u.verdict)) (sym q)
      where
        by : (ws : List Window) (left : List ℕ) → u ≡ record { verdict = verdict_of (test_windows rules ws); next = place_of s left }
            → of_lists (Some (record { zones = (behind e).zs; windows = ws }, left)) ≡ then_some (eqb u.next (length s)) (result_and t.verdict u.verdict)
        by ws [] j =
            let k : u.next ≡ length s = omega (arith, ap (λ (x : Tested). x.next) j) in
            rw (eq-eqb u.next (length s) k)
            (sym (ap Some (ap₂ result_and (behind e).verdict (ap (λ (x : Tested). x.verdict) j) ∙ both_said (test_zones rules (behind e).zs) (test_windows rules ws))))
        by ws (b ∷ left) j =
            let k : u.next ≢ length s = λ q. omega (arith, ap (λ (x : Tested). x.next) j, (behind e).long) in
            rw (ne_eqb u.next (length s) k) refl

        go : (f : Front (List Window)) → section_said read_window window_limit window_rule s f ≡ Some u
            → of_lists (with_windows (behind e).zs f) ≡ then_some (eqb u.next (length s)) (result_and t.verdict u.verdict)
        go None w = cc
        go (Some f) w = by f.0 f.1 cc

  -- ## What is said of a stored record

  abbrev stored : Result (Unit {0}) Refusal
  stored = record_tested zone_limit window_limit s

  pub not_read : None ≡ said → Err BadRecord ≡ stored
  unfolding lists_tested record_tested verdict
  not_read e = go (read_record s) e
    where
      go : (o : Option Lists) → None ≡ option_map (λ l. verdict_of (and_then (test_zones rules l.zones) (test_windows rules l.windows))) o → Err BadRecord ≡ verdict_of (record_verdict rules o)
      go None e = refl
      go (Some l) e = cc

  pub read : {v : Result (Unit {0}) Refusal} → Some v ≡ said → result_or v (Err BadRecord) ≡ stored
  unfolding lists_tested record_tested verdict
  read {v} e = go (read_record s) e
    where
      as_bad : (w : Verdict) → v ≡ verdict_of w → result_or v (Err BadRecord) ≡ verdict_of (as_bad_record w)
      as_bad accepted q = rw q refl
      as_bad (turned_down cause) q = rw q refl

      go : (o : Option Lists) → Some v ≡ option_map (λ l. verdict_of (and_then (test_zones rules l.zones) (test_windows rules l.windows))) o → result_or v (Err BadRecord) ≡ verdict_of (record_verdict rules o)
      go None e = cc
      go (Some l) e = as_bad (and_then (test_zones rules l.zones) (test_windows rules l.windows)) cc

-- the goals of `request`, of `lists` and of `stored` that need no answer
pub ruleset of_request = (not_taken, unread)

pub ruleset of_record = (not_taken, no_zones, no_windows)

pub ruleset of_stored = (not_read, read)
