-- What is tested is what the readers of `record` read.
use Rattle.std.proofs.Common.{Bool, true, false, not, List, [], ◌∷◌, ◌≡◌, ◌↔◌, refl, ap, ◌∙◌, ℕ, suc, eqb, length, drop, Option, None, Some, Err, option_map}
use Rattle.model.specs.declared.Refusal.TheVariants.{ConstraintError, ResourceExhausted, Unreadable, BadRecord}
use Rattle.model.specs.Lists.{Zone, Window, Lists}
use Rattle.model.specs.Rules.{Rules, Verdict, accepted, turned_down, demand, and_then, test_from, test_zones, test_windows, zone_rule, window_rule}
use Rattle.model.specs.Bytes.{Front, read_zone, read_window, read_section, read_zones, read_windows, read_record}
use Rattle.model.specs.History.{record_verdict, verdict}
use Rattle.record.specs.Fronts.{section_found, section_at, record_at}
use Rattle.record.specs.RoundTrip.{request_found}
use Rattle.record.proofs.Meaning.{zones_mean, windows_mean, record_means}
use Rattle.rules.specs.Verdicts.{verdict_of, list_verdict, zones_tested, windows_tested, record_tested}
use Rattle.rules.specs.Entries.{lists_tested, end_tested, end_read}
use Rattle.rules.specs.Laws.{ZonesEnd, WindowsEnd, ZonesUnread, WindowsUnread, ListsUnread, RecordUnread}
use Rattle.rules.proofs.Shown.{section_said, zones_said, windows_said}
use Rattle.rules.proofs.Agree.{is_turned_down}

-- ## Where a section ends

module _ {A : Type 0} (read_one : List ℕ → Front A) (limit : ℕ) (rule : ℕ → Option A → A → Verdict) (s : List ℕ) where
  same_end : (f : Front (List A)) → end_tested (section_said read_one limit rule s f) ≡ end_read (section_found s f)
  same_end None = refl
  same_end (Some f) = refl

pub zones_end : ZonesEnd
unfolding section_at
zones_end limit s at = ap end_tested (zones_said limit s at) ∙ same_end read_zone limit zone_rule s (read_section read_zone (drop at s))

pub windows_end : WindowsEnd
unfolding section_at
windows_end limit s at = ap end_tested (windows_said limit s at) ∙ same_end read_window limit window_rule s (read_section read_window (drop at s))

-- ## The rules have other causes than Unreadable

abbrev IsRead : Verdict → Type 0
IsRead v = v ≡ turned_down Unreadable → ⊥

demanded : (b : Bool) (v : Verdict) → IsRead v → IsRead (demand b ConstraintError v)
unfolding demand
demanded true v k e = k e
demanded false v k e = cc

accepted_read : IsRead accepted
accepted_read e = cc

zone_rule_read : (index : ℕ) (before : Option Zone) (z : Zone) → IsRead (zone_rule index before z)
unfolding zone_rule
zone_rule_read index before z = demanded _ _ (demanded _ _ (demanded _ _ (demanded _ _ accepted_read)))

window_rule_read : (index : ℕ) (before : Option Window) (w : Window) → IsRead (window_rule index before w)
unfolding window_rule
window_rule_read index before w = demanded _ _ (demanded _ _ (demanded _ _ (demanded _ _ accepted_read)))

module _ {A : Type 0} (limit : ℕ) (rule : ℕ → Option A → A → Verdict) (rule_read : (index : ℕ) (before : Option A) (x : A) → IsRead (rule index before x)) where
  all_read : (xs : List A) (index : ℕ) (before : Option A) → IsRead (test_from limit rule index before xs)
  unfolding test_from demand and_then
  all_read [] index before = accepted_read
  all_read (x ∷ xs) index before =
      go (not (eqb index limit)) (rule index before x) (rule_read index before x) (test_from limit rule (suc index) (Some x) xs) (all_read xs (suc index) (Some x))
    where
      go : (b : Bool) (v : Verdict) → IsRead v → (rest : Verdict) → IsRead rest → IsRead (demand b ResourceExhausted (and_then v rest))
      go true accepted k rest r e = r e
      go true (turned_down cause) k rest r e = k e
      go false v k rest r e = cc

  -- a request, by what it reads as
  unread : (len : ℕ) (o : Option (List A)) → verdict_of (list_verdict limit rule o) ≡ Err Unreadable ↔ request_found len o ≡ None
  unread len None = (λ e. refl, λ e. refl)
  unread len (Some xs) = (λ e. absurd (all_read xs 0 None (is_turned_down (test_from limit rule 0 None xs) Unreadable e)), λ e. cc)

pub zones_unread : ZonesUnread
unfolding zones_tested
zones_unread limit s = rw (zones_mean s) (unread limit zone_rule zone_rule_read (length s) (read_zones s))

pub windows_unread : WindowsUnread
unfolding windows_tested
windows_unread limit s = rw (windows_mean s) (unread limit window_rule window_rule_read (length s) (read_windows s))

-- ## A record

pub lists_unread : ListsUnread
unfolding lists_tested
lists_unread zones windows s = go (read_record s) refl
  where
    rules : Rules
    rules = record { zone_limit = zones; window_limit = windows }

    go : (o : Option Lists) → read_record s ≡ o
        → option_map (λ l. verdict_of (and_then (test_zones rules l.zones) (test_windows rules l.windows))) o ≡ None ↔ record_at s ≡ None
    go None q = (λ e. (record_means s).unreadable q, λ e. refl)
    go (Some l) q = let a = ((record_means s).readable l q).answer in (λ e. cc, λ e. cc)

pub record_unread : RecordUnread
unfolding record_tested verdict
record_unread zones windows s h = go (read_record s) refl
  where
    rules : Rules
    rules = record { zone_limit = zones; window_limit = windows }

    go : (o : Option Lists) → read_record s ≡ o → verdict_of (record_verdict rules o) ≡ Err BadRecord
    go None q = refl
    go (Some l) q = let a = ((record_means s).readable l q).answer in cc
