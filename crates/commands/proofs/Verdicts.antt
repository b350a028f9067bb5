-- What a table says of a request is what the model's list store answers.
use Rattle.std.proofs.Common.{Bool, true, false, cond, List, [], ◌∷◌, ◌≡◌, ℕ, ◌≤◌, Option, None, Some, Ok, Err, length, refl, sym, ap, ◌∙◌, arith, le-ltb}
use Rattle.std.specs.Prelude.{Result as StdResult}
use Rattle.model.specs.declared.Refusal.{Refusal}
use Rattle.model.specs.Basics.{when}
use Rattle.model.specs.Lists.{Window}
use Rattle.model.specs.Bytes.{record_bytes, read_windows}
use Rattle.model.specs.Answers.{Effect, refused, answers, done, report, wake_timer, store_record, TimeZone, DSTOffset, Result, unchanged}
use Rattle.model.specs.Rules as R
use Rattle.model.specs.Rules.{test_windows}
use Rattle.model.specs.History.{SetTimeZone, SetDSTOffset, Load, verdict, windows_verdict, if_accepted, after}
use Rattle.model.specs.Output as O
use Rattle.model.specs.Output.{too_short, stores, lacks_room, no_space, store_after_sized}
use Rattle.model.specs.Store as M
use Rattle.model.specs.Store.{Store, changed_by, next_generation}
use Rattle.model.specs.RoundTrip.{AreBytes}
use Rattle.model.proofs.Facts.{by_test}
use Rattle.rules.specs.Verdicts.{verdict_of, record_tested}
use Rattle.rules.proofs.Agree.{zones_are_lem, windows_are_lem, is_accepted, is_turned_down}
use Rattle.table.specs.Layout.{table_size, rules_in, generation_in, store_in}
use Rattle.table.specs.Left.{with_room, time_zone_said, time_zone_left, empties, dst_offset_said, dst_offset_left, load_said}
use Rattle.table.proofs.Requests.{windows_stay}
use Rattle.table.proofs.Room.{zones_said, windows_said}
use Rattle.table.proofs.Follows.{time_zone_follows, dst_offset_follows, lengths_stay}
use Rattle.commands.proofs.Told.{stored_by, roomy_in}

-- ## The room for the record that a call stores

module _ (s : Store) (b : List ℕ) (room : ℕ) where
  zones_short_by : (v : R.Verdict)
      → too_short room (stored_by (M.time_zone_set s b v))
      ≡ lacks_room room (if_accepted v (Some (record_bytes (after s.rules s.lists (SetTimeZone b)))) None)
  unfolding stores M.record_of
  zones_short_by R.accepted = refl
  zones_short_by (R.turned_down cause) = le-ltb room 0 (omega arith)

  zones_short_lem : too_short room (stored_by (M.set_time_zone s b))
      ≡ no_space s.rules s.lists (record { call = SetTimeZone b; room = room })
  unfolding M.set_time_zone no_space O.stored_by
  zones_short_lem = zones_short_by (verdict s.rules (SetTimeZone b))

  windows_short_by : (o : Option (List Window))
      → too_short room (stored_by (M.windows_read s b o))
      ≡ lacks_room room (if_accepted (windows_verdict s.rules o) (Some (record_bytes (after s.rules s.lists (SetDSTOffset b)))) None)
  unfolding stores M.record_of
  windows_short_by None = le-ltb room 0 (omega arith)
  windows_short_by (Some ws) = tested (test_windows s.rules ws)
    where
      tested : (v : R.Verdict)
          → too_short room (stored_by (M.windows_tested s b v))
          ≡ lacks_room room (if_accepted v (Some (record_bytes (after s.rules s.lists (SetDSTOffset b)))) None)
      tested R.accepted = refl
      tested (R.turned_down cause) = le-ltb room 0 (omega arith)

  windows_short_lem : too_short room (stored_by (M.set_dst_offset s b))
      ≡ no_space s.rules s.lists (record { call = SetDSTOffset b; room = room })
  unfolding M.set_dst_offset no_space O.stored_by verdict
  windows_short_lem = windows_short_by (read_windows b)

module _ {A : Type 0} (room : ℕ) (s : Store) (r : Result Store A) where
  -- what is left where there is no room is what was there
  pub roomy_state : (roomy_in room s r).state ≡ cond (too_short room (stored_by r)) s r.state
  roomy_state = by_test (too_short room (stored_by r)) (λ e. rw e) (λ e. rw e)

  -- where it is not turned down there was room
  pub has_room : (a : A) → (roomy_in room s r).answer ≡ answers a → too_short room (stored_by (roomy_in room s r)) ≡ false
  has_room a f = by_test (too_short room (stored_by r)) (λ k. let z = rw k at f in let w : ⊥ = cc in absurd w) (λ k. rw k k)

module _ {A : Type 0} (r : Result Store A) where
  -- what is answered and asked for where a request is taken, and where it is turned down
  pub record Gives (effects : List Effect) : Type 0 where
    pub value : A
    pub answer : r.answer ≡ answers value
    pub asks : r.effects ≡ effects

  pub record Refuses (cause : Refusal) (effects : List Effect) : Type 0 where
    pub answer : r.answer ≡ refused cause
    pub asks : r.effects ≡ effects

-- what a table says of a request and leaves is what the model's call makes of its list store; with the effects of a request that is taken, and
-- of a refusal
pub record Tells {A : Type 0} (t : List ℕ) (room : ℕ) (call : Store → Result Store A) (taken : List Effect)
    (turned_down : Refusal → List Effect) (said : StdResult (Unit {0}) Refusal) (left : List ℕ) : Type 0 where
  pub accepted : said ≡ Ok tt → Gives (roomy_in room (store_in t) (call (store_in t))) taken
  pub refused : (cause : Refusal) → said ≡ Err cause → Refuses (roomy_in room (store_in t) (call (store_in t))) cause (turned_down cause)
  pub follows : store_in left ≡ (roomy_in room (store_in t) (call (store_in t))).state
  pub long : length left ≡ length t

-- ## SetTimeZone

abbrev pub zones_effects : List Effect
zones_effects = wake_timer ∷ store_record ∷ report TimeZone ∷ report DSTOffset ∷ []

module _ (t b : List ℕ) (room : ℕ) where
  -- what the model's call leaves, answers and asks for, with room for the record
  abbrev zones_by : Result Store Bool
  zones_by = roomy_in room (store_in t) (M.set_time_zone (store_in t) b)

  -- the same, by what is said
  abbrev zones_told : StdResult (Unit {0}) Refusal → Result Store Bool
  zones_told (Ok tt) =
      record {
        state = changed_by (store_in t) (SetTimeZone b);
        answer = answers true;
        effects = zones_effects;
      }
  zones_told (Err cause) = unchanged (store_in t) cause

  zones_by_verdict : (v : R.Verdict)
      → roomy_in room (store_in t) (M.time_zone_set (store_in t) b v)
      ≡ zones_told (with_room (too_short room (stored_by (M.time_zone_set (store_in t) b v))) (verdict_of v))
  unfolding stores
  zones_by_verdict R.accepted = by_test (too_short room (stored_by (M.time_zone_set (store_in t) b R.accepted))) (λ e. rw e) (λ e. rw e)
  zones_by_verdict (R.turned_down cause) = rw (le-ltb room 0 (omega arith))

  zones_told_lem : zones_by ≡ zones_told (time_zone_said t b room)
  unfolding M.set_time_zone
  zones_told_lem =
      let v = verdict (rules_in t) (SetTimeZone b) in
      let said = zones_said t b room (verdict_of v) _ (zones_are_lem (rules_in t) b) (sym (zones_short_lem (store_in t) b room)) in
      zones_by_verdict v ∙ ap zones_told (sym said)

  pub zones_tell : table_size ≤ length t → AreBytes b
      → Tells t room (λ x. M.set_time_zone x b) zones_effects (λ cause. []) (time_zone_said t b room) (time_zone_left t b room)
  unfolding store_after_sized M.store_after
  zones_tell h c =
      record {
        accepted = λ e. rw (zones_told_lem, e) (record { value = true; answer = refl; asks = refl });
        refused = λ cause e. rw (zones_told_lem, e) (record { answer = refl; asks = refl });
        follows = time_zone_follows t b room h c ∙ rw (roomy_state, zones_short_lem (store_in t) b room);
        long = (lengths_stay t b room).time_zone;
      }

-- ## SetDSTOffset

abbrev pub windows_effects : List Effect
windows_effects = wake_timer ∷ store_record ∷ report DSTOffset ∷ []

abbrev pub windows_refused : Refusal → List Effect
windows_refused cause = when (empties cause) wake_timer

-- a change that is counted changes the generation
counted_differs : (g : ℕ) → next_generation g ≡ g → ⊥
counted_differs g e = omega arith

module _ (t b : List ℕ) (room : ℕ) where
  abbrev windows_by : Result Store (Unit {0})
  windows_by = roomy_in room (store_in t) (M.set_dst_offset (store_in t) b)

  abbrev windows_told : StdResult (Unit {0}) Refusal → Result Store (Unit {0})
  windows_told (Ok tt) =
      record {
        state = changed_by (store_in t) (SetDSTOffset b);
        answer = done;
        effects = windows_effects;
      }
  windows_told (Err cause) =
      record {
        state = cond (empties cause) (changed_by (store_in t) (SetDSTOffset b)) (store_in t);
        answer = refused cause;
        effects = windows_refused cause;
      }

  windows_said_lem : dst_offset_said t b room
      ≡ with_room (too_short room (stored_by (M.set_dst_offset (store_in t) b))) (verdict_of (windows_verdict (rules_in t) (read_windows b)))
  unfolding verdict
  windows_said_lem = windows_said t b room _ _ (windows_are_lem (rules_in t) b) (sym (windows_short_lem (store_in t) b room))

  module _ (h : table_size ≤ length t) (c : AreBytes b) where
    windows_follow : store_in (dst_offset_left t b room) ≡ windows_by.state
    unfolding store_after_sized M.store_after
    windows_follow =
        dst_offset_follows t b room h c ∙ rw (roomy_state, windows_short_lem (store_in t) b room)

    -- readable windows that are turned down leave none: the model counts a change
    leaves_none : (ws : List Window) (cause : Refusal) → read_windows b ≡ Some ws → test_windows (rules_in t) ws ≡ R.turned_down cause
        → empties cause ≡ true
    unfolding dst_offset_left M.set_dst_offset stores
    leaves_none ws cause e a =
        by_test (empties cause) (λ y. y)
        (λ n.
        let said : Err cause ≡ dst_offset_said t b room = rw (windows_said_lem, e, a) in
        let stays = windows_stay t (dst_offset_said t b room) cause (read_windows b) said n in
        let counts : windows_by.state.generation ≡ next_generation (generation_in t) = rw (e, a, le-ltb room 0 (omega arith)) in
        let same : generation_in t ≡ next_generation (generation_in t)
        = ap generation_in stays ∙ ap (λ (x : Store). x.generation) windows_follow ∙ counts in
        absurd (counted_differs (generation_in t) (sym same)))

    windows_by_read : (o : Option (List Window)) → read_windows b ≡ o
        → roomy_in room (store_in t) (M.windows_read (store_in t) b o)
        ≡ windows_told (with_room (too_short room (stored_by (M.windows_read (store_in t) b o))) (verdict_of (windows_verdict (rules_in t) o)))
    unfolding stores
    windows_by_read None e = rw (le-ltb room 0 (omega arith))
    windows_by_read (Some ws) e = tested (test_windows (rules_in t) ws) refl
      where
        tested : (v : R.Verdict) → test_windows (rules_in t) ws ≡ v
            → roomy_in room (store_in t) (M.windows_tested (store_in t) b v)
            ≡ windows_told (with_room (too_short room (stored_by (M.windows_tested (store_in t) b v))) (verdict_of v))
        tested R.accepted a = by_test (too_short room (stored_by (M.windows_tested (store_in t) b R.accepted))) (λ k. rw k) (λ k. rw k)
        tested (R.turned_down cause) a = rw (le-ltb room 0 (omega arith), leaves_none ws cause e a)

    windows_told_lem : windows_by ≡ windows_told (dst_offset_said t b room)
    unfolding M.set_dst_offset
    windows_told_lem = windows_by_read (read_windows b) refl ∙ ap windows_told (sym windows_said_lem)

    pub windows_tell :
        Tells t room (λ x. M.set_dst_offset x b) windows_effects windows_refused (dst_offset_said t b room) (dst_offset_left t b room)
    windows_tell =
        record {
          accepted = λ e. rw (windows_told_lem, e) (record { value = tt; answer = refl; asks = refl });
          refused = λ cause e. rw (windows_told_lem, e) (record { answer = refl; asks = refl });
          follows = windows_follow;
          long = (lengths_stay t b room).dst_offset;
        }

-- ## Load

-- what is said of a record is what the model answers
pub load_told : (t b : List ℕ) (v : R.Verdict) → load_said t b ≡ verdict_of v
    → M.load (store_in t) (Some b) ≡ M.store_loaded (store_in t) (Some b) v
unfolding load_said record_tested M.load
load_told t b v e = ap (M.store_loaded (store_in t) (Some b)) (same_said (verdict (rules_in t) (Load (Some b))) v e)
  where
    same_said : (u v : R.Verdict) → verdict_of u ≡ verdict_of v → u ≡ v
    same_said u R.accepted e = is_accepted u e
    same_said u (R.turned_down cause) e = is_turned_down u cause e
