-- What is said of a request, by the length of the record that it would store.
use Rattle.std.specs.Prelude.{None, Some, Result, Ok, Err}
use Rattle.std.proofs.Common.{◌≡◌, ℕ, ◌+◌, Bool, ltb, List, [], ◌∷◌, length, sym, ap, ◌∙◌, arith, length-append, get_or, Fits, w8}
use Rattle.model.specs.declared.Refusal.{Refusal}
use Rattle.model.specs.Lists.{Zone, Window, Lists}
use Rattle.model.specs.Bytes.{zones_bytes, windows_bytes, record_bytes, all_bytes, read_zones, read_windows}
use Rattle.model.specs.Rules as M
use Rattle.model.specs.Rules.{Rules, test_zones, test_windows}
use Rattle.model.specs.History.{SetTimeZone, SetDSTOffset, verdict, zones_verdict, windows_verdict, if_accepted, zones_set, windows_set, after}
use Rattle.model.specs.Output.{stored_by, lacks_room, no_space}
use Rattle.model.specs.RoundTrip.{AreBytes}
use Rattle.model.proofs.ReadBack as B
use Rattle.rules.specs.Verdicts.{zones_tested, windows_tested}
use Rattle.rules.proofs.Agree.{zones_are_lem, windows_are_lem, is_accepted}
use Rattle.table.specs.Layout.{zones_in, lists_in, zone_limit_in, window_limit_in, rules_in}
use Rattle.table.specs.Left.{with_room, time_zone_said, dst_offset_said, zones_left, time_zone_left}
use Rattle.table.proofs.Requests.{are_bytes, zones_requested, windows_requested}

-- ## What an accepted request makes of the lists, and the length of its record

module _ (r : Rules) (b : List ℕ) where
  pub zones_pass : (zs : List Zone) → read_zones b ≡ Some zs → verdict r (SetTimeZone b) ≡ M.accepted → test_zones r zs ≡ M.accepted
  unfolding verdict
  zones_pass zs e v = sym (ap (zones_verdict r) e) ∙ v

  pub windows_pass : (ws : List Window) → read_windows b ≡ Some ws → verdict r (SetDSTOffset b) ≡ M.accepted → test_windows r ws ≡ M.accepted
  unfolding verdict
  windows_pass ws e v = sym (ap (windows_verdict r) e) ∙ v

  module _ (l : Lists) where
    pub zones_taken_lem : (zs : List Zone) → read_zones b ≡ Some zs → verdict r (SetTimeZone b) ≡ M.accepted → after r l (SetTimeZone b) ≡ record { zones = zs; windows = [] }
    unfolding after
    zones_taken_lem zs e v = ap (zones_set r l) e ∙ ap (λ (w : M.Verdict). if_accepted w (record { zones = zs; windows = [] }) l) (zones_pass zs e v)

    pub windows_set_lem : (ws : List Window) (v : M.Verdict) → read_windows b ≡ Some ws → test_windows r ws ≡ v → after r l (SetDSTOffset b) ≡ record { zones = l.zones; windows = if_accepted v ws [] }
    unfolding after
    windows_set_lem ws v e a = ap (windows_set r l) e ∙ ap (λ (w : M.Verdict). record { zones = l.zones; windows = if_accepted w ws [] }) a

zones_record : (zs : List Zone) (b : List ℕ) → b ≡ zones_bytes zs → length (record_bytes (record { zones = zs; windows = [] })) ≡ length b + 1
unfolding record_bytes windows_bytes all_bytes
zones_record zs b e = omega (arith, ap length e, length-append (zones_bytes zs) (0 ∷ []))

windows_record : (zs : List Zone) (ws : List Window) (b : List ℕ) → b ≡ windows_bytes ws → length (record_bytes (record { zones = zs; windows = ws })) ≡ length (zones_bytes zs) + length b
unfolding record_bytes
windows_record zs ws b e = omega (arith, ap length e, length-append (zones_bytes zs) (windows_bytes ws))

-- ## Whether there is room

module _ (s b : List ℕ) (room : ℕ) where
  abbrev pub zones_short : Bool
  zones_short = no_space (rules_in s) (lists_in s) (record { call = SetTimeZone b; room = room })

  abbrev pub windows_short : Bool
  windows_short = no_space (rules_in s) (lists_in s) (record { call = SetDSTOffset b; room = room })

  pub zones_room : AreBytes b → zones_tested (zone_limit_in s) b ≡ (Ok tt) → zones_short ≡ ltb room (length b + 1)
  unfolding no_space stored_by
  zones_room c h =
      let q = zones_requested (zone_limit_in s) b c h in
      let v = is_accepted (verdict (rules_in s) (SetTimeZone b)) (sym (zones_are_lem (rules_in s) b) ∙ h) in
      ap (λ (w : M.Verdict). lacks_room room (if_accepted w (Some (record_bytes (after (rules_in s) (lists_in s) (SetTimeZone b)))) None)) v
      ∙ ap (λ (l : Lists). ltb room (length (record_bytes l))) (zones_taken_lem (rules_in s) b (lists_in s) q.list q.is v)
      ∙ ap (ltb room) (zones_record q.list b (B.zones_written b q.list c q.is).0)

  pub windows_room : AreBytes b → windows_tested (window_limit_in s) b ≡ (Ok tt) → windows_short ≡ ltb room (length (zones_bytes (zones_in s)) + length b)
  unfolding no_space stored_by
  windows_room c h =
      let q = windows_requested (window_limit_in s) b c h in
      let v = is_accepted (verdict (rules_in s) (SetDSTOffset b)) (sym (windows_are_lem (rules_in s) b) ∙ h) in
      ap (λ (w : M.Verdict). lacks_room room (if_accepted w (Some (record_bytes (after (rules_in s) (lists_in s) (SetDSTOffset b)))) None)) v
      ∙ ap (λ (l : Lists). ltb room (length (record_bytes l))) (windows_set_lem (rules_in s) b (lists_in s) q.list M.accepted q.is (windows_pass (rules_in s) b q.list q.is v))
      ∙ ap (ltb room) (windows_record (zones_in s) q.list b (B.windows_written b q.list c q.is).0)

  -- ## What is said, by the rules and the room

  pub zones_said : (v : Result (Unit {0}) Refusal) (short : Bool) → zones_tested (zone_limit_in s) b ≡ v → zones_short ≡ short → time_zone_said s b room ≡ with_room short v
  unfolding time_zone_said
  zones_said v short p q = ap (λ (x : Bool). with_room x (zones_tested (zone_limit_in s) b)) q ∙ ap (with_room short) p

  pub windows_said : (v : Result (Unit {0}) Refusal) (short : Bool) → windows_tested (window_limit_in s) b ≡ v → windows_short ≡ short → dst_offset_said s b room ≡ with_room short v
  unfolding dst_offset_said
  windows_said v short p q = ap (λ (x : Bool). with_room x (windows_tested (window_limit_in s) b)) q ∙ ap (with_room short) p

  -- zones that are turned down change nothing
  pub zones_stay : (cause : Refusal) → time_zone_said s b room ≡ Err cause → (Err cause ≡ time_zone_said s b room) × (s ≡ time_zone_left s b room)
  unfolding time_zone_left
  zones_stay cause e = (sym e, sym (ap (λ (v : Result (Unit {0}) Refusal). zones_left v (read_zones b) s) e))

-- the same from the bytes that were read
module _ (s b : List ℕ) (room : ℕ) (f : (i : ℕ) → Fits w8 (get_or b i 0)) where
  pub zones_by_room : zones_tested (zone_limit_in s) b ≡ (Ok tt) → zones_short s b room ≡ ltb room (length b + 1)
  zones_by_room = zones_room s b room (are_bytes b (λ i. (f i).fits))

  pub windows_by_room : windows_tested (window_limit_in s) b ≡ (Ok tt) → windows_short s b room ≡ ltb room (length (zones_bytes (zones_in s)) + length b)
  windows_by_room = windows_room s b room (are_bytes b (λ i. (f i).fits))
