-- Entries that were found, and what they stand for: the code's numbers decide the model's rules.
use Rattle.std.proofs.Common.{Bool, true, false, not, ◌&&◌, List, [], ◌∷◌, ◌≡◌, refl, sym, ap, ◌∙◌, ℕ, zero, suc, ◌+◌, ◌≤◌, leb, ltb, length, drop, get_or, Option, None, Some, MatchOption, is_some, option_map, option_and_then, arith, ltb-true, ltb-false, le-leb}
use Rattle.std.proofs.lemmas.Bool.{lt-leb}
use Rattle.model.specs.declared.Refusal.TheVariants.{ConstraintError}
use Rattle.model.specs.Lists.{Name, Zone, Window}
use Rattle.model.specs.Rules.{Verdict, accepted, demand, test_from, above_the_one_before, offset_in_range, name_fits, zone_rule, window_rule, reached}
use Rattle.model.specs.Bytes.{Front, read_zone, read_window, read_all, read_section}
use Rattle.model.proofs.Facts.{by_test}
use Rattle.record.specs.declared.NamePlace.{NamePlace}
use Rattle.record.specs.declared.TimeZoneRead.{TimeZoneRead}
use Rattle.record.specs.declared.DSTOffsetRead.{DSTOffsetRead}
use Rattle.record.specs.Fronts.{place_of, entries_at, name_place, zone_found, zone_at, window_found, window_at, next_zone, next_window}
use Rattle.record.specs.Entries.{EntryRead}
use Rattle.record.specs.RoundTrip.{window_of}
use Rattle.record.proofs.Front.{place_drop, byte_at, no_byte}
use Rattle.record.proofs.Suffix.{zone_leaves, window_leaves}
use Rattle.record.proofs.Sections.{none_less, entry_read}
use Rattle.rules.specs.declared.rule.Tested.{Tested}
use Rattle.rules.specs.Numbers.{zero_at_first, above, length_fits, zone_passes, after_window, below_end, window_passes}
use Rattle.rules.specs.Verdicts.{verdict_of}
use Rattle.rules.specs.Entries.{entry_rule, entries_tested, section_tested}

-- ## An entry that was read, and what it stands for

module _ {A E : Type 0} (shows : A → E → Type 0) where
  -- the entry read at `at` stands for what is read there, and ends where the reader goes on
  pub record ShownAt (read_one : List ℕ → Front A) (next_of : E → ℕ) (s : List ℕ) (at : ℕ) (e : E) : Type 0 where
    pub read : EntryRead read_one s at (next_of e)
    pub shown : shows read.entry e

  -- within the bytes such an entry is found where one is read, and none where nothing is readable
  abbrev pub Shows : (List ℕ → Front A) → (List ℕ → ℕ → Option E) → (E → ℕ) → Type 0
  Shows read_one found_at next_of =
      (s : List ℕ) (at : ℕ) → at ≤ length s → MatchOption (found_at s at) (read_one (drop at s) ≡ None) (λ e. ShownAt read_one next_of s at e)

  -- the same of the entry before, if there is one
  abbrev pub ShownBefore : Option A → Option E → Type 0
  ShownBefore None None = Unit {0}
  ShownBefore (Some x) (Some e) = shows x e
  ShownBefore None (Some e) = ⊥
  ShownBefore (Some x) None = ⊥

  -- the rule turns an entry down by ConstraintError exactly where it does not pass
  abbrev pub Decides : (ℕ → Option A → A → Verdict) → (ℕ → Option E → E → Bool) → Type 0
  Decides rule keeps =
      (index : ℕ) (before : Option E) (e : E) (x : A) (b : Option A) → shows x e → ShownBefore b before → rule index b x ≡ entry_rule keeps index before e

  -- each of some entries stands for what was read
  abbrev pub AllShown : List A → List E → Type 0
  AllShown [] [] = Unit {0}
  AllShown (x ∷ xs) (e ∷ es) = shows x e × AllShown xs es
  AllShown [] (e ∷ es) = ⊥
  AllShown (x ∷ xs) [] = ⊥

  module _ (rule : ℕ → Option A → A → Verdict) (keeps : ℕ → Option E → E → Bool) (decides : Decides rule keeps) (limit : ℕ) where
    test_same : (xs : List A) (es : List E) → AllShown xs es → (index : ℕ) (before : Option A) (last : Option E) → ShownBefore before last
        → test_from limit (entry_rule keeps) index last es ≡ test_from limit rule index before xs
    unfolding test_from
    test_same [] [] k index before last b = refl
    test_same (x ∷ xs) (e ∷ es) k index before last b =
        rw (decides index last e x before k.0 b, test_same xs es k.1 (suc index) (Some x) (Some e) k.0) refl
    test_same [] (e ∷ es) k index before last b = absurd k
    test_same (x ∷ xs) [] k index before last b = absurd k

  module _ (read_one : List ℕ → Front A) (found_at : List ℕ → ℕ → Option E) (next_of : E → ℕ) (shown : Shows read_one found_at next_of) (s : List ℕ) where
    -- what so many entries from `at` on stand for, and where the reader goes on
    record Read (at n : ℕ) (p : List E × ℕ) : Type 0 where
      pub xs : List A
      pub read : read_all read_one n (drop at s) ≡ Some (xs, drop p.1 s)
      pub within : p.1 ≤ length s
      pub all : AllShown xs p.0

    entries_read : (n at : ℕ) → at ≤ length s → MatchOption (entries_at found_at next_of s at n) (read_all read_one n (drop at s) ≡ None) (λ p. Read at n p)
    unfolding entries_at read_all
    entries_read zero at h = record { xs = []; read = refl; within = h; all = tt }
    entries_read (suc n) at h = go (found_at s at) (shown s at h) (λ k w. entries_read n k w)
      where
        behind : (e : E) → ShownAt read_one next_of s at e → (o : Option (List E × ℕ)) → MatchOption o (read_all read_one n (drop (next_of e) s) ≡ None) (λ p. Read (next_of e) n p)
            → MatchOption (option_map (λ (p : List E × ℕ). (e ∷ p.0, p.1)) o) (read_all read_one (suc n) (drop at s) ≡ None) (λ p. Read at (suc n) p)
        behind e i None k = rw (i.read.is, k) refl
        behind e i (Some p) r = record { xs = i.read.entry ∷ r.xs; read = rw (i.read.is, r.read) refl; within = r.within; all = (i.shown, r.all) }

        go : (f : Option E) → MatchOption f (read_one (drop at s) ≡ None) (λ e. ShownAt read_one next_of s at e)
            → ((k : ℕ) → k ≤ length s → MatchOption (entries_at found_at next_of s k n) (read_all read_one n (drop k s) ≡ None) (λ p. Read k n p))
            → MatchOption (option_and_then (λ (e : E). option_map (λ (p : List E × ℕ). (e ∷ p.0, p.1)) (entries_at found_at next_of s (next_of e) n)) f) (read_all read_one (suc n) (drop at s) ≡ None) (λ p. Read at (suc n) p)
        go None k more = none_less read_one n (drop at s) k
        go (Some e) i more = behind e i (entries_at found_at next_of s (next_of e) n) (more (next_of e) i.read.within)

-- ## A section, by what it reads as

module _ {A : Type 0} (read_one : List ℕ → Front A) (limit : ℕ) (rule : ℕ → Option A → A → Verdict) (s : List ℕ) where
  -- what is said of entries that were read, and the place after them
  abbrev pub section_said : Front (List A) → Option Tested
  section_said f = option_map (λ (p : List A × List ℕ). record { verdict = verdict_of (test_from limit rule 0 None p.0); next = place_of s p.1 }) f

  module _ {E : Type 0} (shows : A → E → Type 0) (found_at : List ℕ → ℕ → Option E) (next_of : E → ℕ) (keeps : ℕ → Option E → E → Bool)
      (shown : Shows shows read_one found_at next_of) (decides : Decides shows rule keeps) where
    pub section_is : (at : ℕ) → section_tested found_at next_of keeps limit s at ≡ section_said (read_section read_one (drop at s))
    unfolding section_tested
    section_is at =
        by_test (ltb at (length s))
        (λ t. let h = ltb-true at (length s) t in
        rw (t, byte_at s at h)
        (go (entries_at found_at next_of s (at + 1) (get_or s at 0)) (entries_read shows read_one found_at next_of shown s (get_or s at 0) (at + 1) (omega (arith, h)))))
        (λ t. rw (t, no_byte s at (ltb-false at (length s) t)) refl)
      where
        go : (o : Option (List E × ℕ)) → MatchOption o (read_all read_one (get_or s at 0) (drop (at + 1) s) ≡ None) (λ p. Read shows read_one found_at next_of shown s (at + 1) (get_or s at 0) p)
            → entries_tested found_at next_of keeps limit o ≡ section_said (read_all read_one (get_or s at 0) (drop (at + 1) s))
        go None k = rw k refl
        go (Some p) r = rw (r.read, place_drop s p.1 r.within, test_same shows rule keeps decides limit r.xs p.0 r.all 0 None None tt) refl

-- ## Zones and windows

-- the index of a window plays no part
abbrev pub window_keeps : ℕ → Option DSTOffsetRead → DSTOffsetRead → Bool
window_keeps index before w = window_passes before w

-- of a zone the rule sees its offset, its start and the length of its name
pub record ShowsZone (z : Zone) (r : TimeZoneRead) : Type 0 where
  pub offset : r.offset ≡ z.offset
  pub start : r.valid_at ≡ z.start
  pub name : option_map (λ p. p.len) r.name ≡ option_map (λ n. length n) z.name

-- a window is read whole
abbrev pub ShowsWindow : Window → DSTOffsetRead → Type 0
ShowsWindow w r = window_of r ≡ w

-- demands with one refusal are one demand
four : (a b c d : Bool) → demand a ConstraintError (demand b ConstraintError (demand c ConstraintError (demand d ConstraintError accepted))) ≡ demand (a && (b && (c && d))) ConstraintError accepted
unfolding demand
four true true true d = refl
four true true false d = refl
four true false c d = refl
four false b c d = refl

above_is : (before : Option Zone) (last : Option TimeZoneRead) → ShownBefore ShowsZone before last → (z : Zone) (t : ℕ) → t ≡ z.start → above_the_one_before before z ≡ above last t
above_is None None k z t e = refl
above_is (Some b) (Some l) k z t e = rw (k.start, e) refl
above_is None (Some l) k z t e = absurd k
above_is (Some b) None k z t e = absurd k

fits_is : (name : Option Name) (place : Option NamePlace) → option_map (λ p. p.len) place ≡ option_map (λ n. length n) name → name_fits name ≡ length_fits place
fits_is None None e = refl
fits_is (Some n) (Some p) e = let q : p.len ≡ length n = cc in ap (λ (m : ℕ). leb m 64) (sym q)
fits_is None (Some p) e = cc
fits_is (Some n) None e = cc

pub zone_decides : Decides ShowsZone zone_rule zone_passes
unfolding zone_rule
zone_decides index last r z before k b =
    rw (above_is before last b z r.valid_at k.start, fits_is z.name r.name k.name, ← k.start, ← k.offset)
    (four (zero_at_first index r.valid_at) (above last r.valid_at) (offset_in_range r.offset) (length_fits r.name))

pub zone_shown : Shows ShowsZone read_zone zone_at next_zone
unfolding zone_at entry_read
zone_shown s at h = go (read_zone (drop at s)) refl
  where
    named : (n : Option Name) → option_map (λ p. p.len) (name_place at n) ≡ option_map (λ m. length m) n
    named None = refl
    named (Some n) = refl

    go : (f : Front Zone) → read_zone (drop at s) ≡ f → MatchOption (zone_found s at f) (read_zone (drop at s) ≡ None) (λ z. ShownAt ShowsZone read_zone next_zone s at z)
    go None e = e
    go (Some p) e = record { read = entry_read read_zone zone_leaves s at h p.0 p.1 e; shown = record { offset = refl; start = refl; name = named p.0.name } }

not_reached : (t e : ℕ) → not (leb e t) ≡ ltb t e
not_reached t e =
    by_test (ltb t e)
    (λ h. ap not (lt-leb e t (ltb-true t e h)) ∙ sym h)
    (λ h. ap not (le-leb e t (ltb-false t e h)) ∙ sym h)

below_is : (t : ℕ) (u : Option ℕ) → not (reached t u) ≡ below_end t u
below_is t None = refl
below_is t (Some e) = not_reached t e

-- after a window from `b` to `u`, a window from `t` that passes a test
after_one : (u : Option ℕ) (b t : ℕ) (p : Bool)
    → demand (is_some u) ConstraintError (demand (ltb b t) ConstraintError (demand (reached t u) ConstraintError (demand p ConstraintError accepted)))
    ≡ demand (after_window b u t && p) ConstraintError accepted
unfolding demand
after_one None b t p = refl
after_one (Some e) b t p = three (ltb b t) (leb e t)
  where
    three : (x y : Bool) → demand x ConstraintError (demand y ConstraintError (demand p ConstraintError accepted)) ≡ demand ((x && y) && p) ConstraintError accepted
    three true true = refl
    three true false = refl
    three false y = refl

pub window_decides : Decides ShowsWindow window_rule window_keeps
unfolding window_rule demand
window_decides index None r w None k b = rw (← k, below_is r.valid_starting r.valid_until) refl
window_decides index (Some l) r w (Some x) k b =
    rw (← k, ← b, below_is r.valid_starting r.valid_until) (after_one l.valid_until l.valid_starting r.valid_starting (below_end r.valid_starting r.valid_until))
window_decides index None r w (Some x) k b = absurd b
window_decides index (Some l) r w None k b = absurd b

pub window_shown : Shows ShowsWindow read_window window_at next_window
unfolding window_at entry_read
window_shown s at h = go (read_window (drop at s)) refl
  where
    go : (f : Front Window) → read_window (drop at s) ≡ f → MatchOption (window_found s f) (read_window (drop at s) ≡ None) (λ w. ShownAt ShowsWindow read_window next_window s at w)
    go None e = e
    go (Some p) e = record { read = entry_read read_window window_leaves s at h p.0 p.1 e; shown = refl }

pub zones_said : (limit : ℕ) (s : List ℕ) (at : ℕ) → section_tested zone_at next_zone zone_passes limit s at ≡ section_said read_zone limit zone_rule s (read_section read_zone (drop at s))
zones_said limit s = section_is read_zone limit zone_rule s ShowsZone zone_at next_zone zone_passes zone_shown zone_decides

pub windows_said : (limit : ℕ) (s : List ℕ) (at : ℕ)
    → section_tested window_at next_window window_keeps limit s at ≡ section_said read_window limit window_rule s (read_section read_window (drop at s))
windows_said limit s = section_is read_window limit window_rule s ShowsWindow window_at next_window window_keeps window_shown window_decides
