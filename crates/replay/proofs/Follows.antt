-- The calls of a history leave in a table the list store that the model's calls leave.
use Rattle.std.proofs.Common.{Option, None, Some, Bool, true, false, cond, List, [], ◌∷◌, ◌≡◌, refl, ap, ◌∙◌, ℕ, zero, suc, ◌≤◌, ◌<◌, arith, le-ltb, length, take, drop, take-append-drop}
use Rattle.model.specs.Basics.{All, run}
use Rattle.model.specs.Bytes.{record_bytes, record_most, read_windows}
use Rattle.model.specs.History.{Call, SetTimeZone, SetDSTOffset, Load, FactoryReset, windows_verdict, verdict, if_accepted, after}
use Rattle.model.specs.Lists.{Window, Lists}
use Rattle.model.specs.Output.{stored_by, lacks_room, no_space, store_after_sized}
use Rattle.model.specs.RoundTrip.{AreBytes, CallBytes}
use Rattle.model.specs.Rules.{Rules, allowed, Verdict, accepted, turned_down}
use Rattle.model.specs.Store.{Store, changed_by, time_zone_set, set_time_zone, windows_tested, windows_read, set_dst_offset, load, store_after, store_from}
use Rattle.model.proofs.Facts.{All-left, All-right}
use Rattle.history.specs.Calls.{call_with, read_calls}
use Rattle.history.proofs.Reading.{first_call}
use Rattle.table.specs.Layout.{table_size, rules_in, lists_in, store_in, new_table}
use Rattle.table.specs.Left.{time_zone_left, dst_offset_left}
use Rattle.table.proofs.Bounds.{record_most_lem}
use Rattle.table.proofs.Follows.{time_zone_follows, dst_offset_follows, load_follows, reset_follows, new_follows, lengths_stay}
use Rattle.replay.specs.Replays.{new_store}
use Rattle.replay.specs.Tables.{table_next, table_through}

-- ## Room for the largest record is always enough

-- what an accepted request leaves
module _ (t : Store) (b : List ℕ) where
  zones_taken_lem : verdict t.rules (SetTimeZone b) ≡ accepted → store_after t (SetTimeZone b) ≡ changed_by t (SetTimeZone b)
  unfolding store_after set_time_zone
  zones_taken_lem e = ap (λ (v : Verdict). (time_zone_set t b v).state) e

  windows_taken_lem : verdict t.rules (SetDSTOffset b) ≡ accepted → store_after t (SetDSTOffset b) ≡ changed_by t (SetDSTOffset b)
  unfolding store_after set_dst_offset verdict
  windows_taken_lem e = go (read_windows b) e
    where
      go : (o : Option (List Window)) → windows_verdict t.rules o ≡ accepted → (windows_read t b o).state ≡ changed_by t (SetDSTOffset b)
      go None v = cc
      go (Some ws) v = ap (λ (w : Verdict). (windows_tested t b w).state) v

-- of a call that stores the record of the lists that it leaves
module _ (s : List ℕ) (c : Call) (left : ℕ → List ℕ)
    (follows : (room : ℕ) → store_in (left room) ≡ store_after_sized (store_in s) (record { call = c; room = room }))
    (stored : stored_by (rules_in s) (lists_in s) c ≡ if_accepted (verdict (rules_in s) c) (Some (record_bytes (after (rules_in s) (lists_in s) c))) None)
    (taken : verdict (rules_in s) c ≡ accepted → store_after (store_in s) c ≡ changed_by (store_in s) c) where
  roomy_store : (room : ℕ) → no_space (rules_in s) (lists_in s) (record { call = c; room = room }) ≡ false → store_in (left room) ≡ store_after (store_in s) c
  unfolding store_after_sized
  roomy_store room e = follows room ∙ ap (λ (short : Bool). cond short (store_in s) (store_after (store_in s) c)) e

  short_by : (room : ℕ) (v : Verdict) → verdict (rules_in s) c ≡ v
      → no_space (rules_in s) (lists_in s) (record { call = c; room = room }) ≡ lacks_room room (if_accepted v (Some (record_bytes (after (rules_in s) (lists_in s) c))) None)
  unfolding no_space
  short_by room v e =
      ap (lacks_room room) stored
      ∙ ap (λ (w : Verdict). lacks_room room (if_accepted w (Some (record_bytes (after (rules_in s) (lists_in s) c))) None)) e

  -- what was written with as much room as it needs is a table's record
  few : verdict (rules_in s) c ≡ accepted → length (record_bytes (after (rules_in s) (lists_in s) c)) ≤ record_most
  few e =
      let n = length (record_bytes (after (rules_in s) (lists_in s) c)) in
      let q = roomy_store n (short_by n accepted e ∙ le-ltb n n (omega arith)) ∙ taken e in
      omega (arith, ap (λ (t : Store). length (record_bytes t.lists)) q, record_most_lem (left n))

  enough : store_in (left record_most) ≡ store_after (store_in s) c
  enough = go (verdict (rules_in s) c) refl
    where
      go : (v : Verdict) → verdict (rules_in s) c ≡ v → store_in (left record_most) ≡ store_after (store_in s) c
      go accepted e = roomy_store record_most (short_by record_most accepted e ∙ le-ltb record_most (length (record_bytes (after (rules_in s) (lists_in s) c))) (few e))
      go (turned_down cause) e = roomy_store record_most (short_by record_most (turned_down cause) e)

-- ## One call, and calls one after the other

zones_stored : (r : Rules) (l : Lists) (b : List ℕ) → stored_by r l (SetTimeZone b) ≡ if_accepted (verdict r (SetTimeZone b)) (Some (record_bytes (after r l (SetTimeZone b)))) None
unfolding stored_by
zones_stored r l b = refl

windows_stored : (r : Rules) (l : Lists) (b : List ℕ) → stored_by r l (SetDSTOffset b) ≡ if_accepted (verdict r (SetDSTOffset b)) (Some (record_bytes (after r l (SetDSTOffset b)))) None
unfolding stored_by
windows_stored r l b = refl

load_nothing : (t : List ℕ) → store_in t ≡ store_after (store_in t) (Load None)
unfolding store_after load verdict after
load_nothing t = refl

next_follows : (t : List ℕ) (c : Call) → table_size ≤ length t → CallBytes c → store_in (table_next t c) ≡ store_after (store_in t) c
unfolding table_next
next_follows t (SetTimeZone b) h k =
    enough t (SetTimeZone b) (time_zone_left t b) (λ room. time_zone_follows t b room h k) (zones_stored (rules_in t) (lists_in t) b) (zones_taken_lem (store_in t) b)
next_follows t (SetDSTOffset b) h k =
    enough t (SetDSTOffset b) (dst_offset_left t b) (λ room. dst_offset_follows t b room h k) (windows_stored (rules_in t) (lists_in t) b) (windows_taken_lem (store_in t) b)
next_follows t (Load None) h k = load_nothing t
next_follows t (Load (Some b)) h k = load_follows t b h k
next_follows t FactoryReset h k = reset_follows t h

next_long : (t : List ℕ) (c : Call) → length (table_next t c) ≡ length t
unfolding table_next
next_long t (SetTimeZone b) = (lengths_stay t b record_most).time_zone
next_long t (SetDSTOffset b) = (lengths_stay t b record_most).dst_offset
next_long t (Load None) = refl
next_long t (Load (Some b)) = (lengths_stay t b record_most).load
next_long t FactoryReset = (lengths_stay t [] record_most).reset

through_follows : (t : List ℕ) (calls : List Call) → table_size ≤ length t → All CallBytes calls → store_in (table_through t calls) ≡ store_from (store_in t) calls
unfolding run
through_follows t [] h k = refl
through_follows t (c ∷ calls) h k =
    through_follows (table_next t c) calls (omega (arith, next_long t c)) k.1
    ∙ ap (λ (s : Store). run store_after s calls) (next_follows t c h k.0)

-- ## The arguments of a history's calls are bytes

rest_bytes : (s : List ℕ) (n : ℕ) → AreBytes s → AreBytes (drop n s)
rest_bytes s n h = All-right (λ (x : ℕ). x < 256) (take n s) (drop n s) (rw (take-append-drop n s) h)

part_bytes : (s : List ℕ) (from n : ℕ) → AreBytes s → AreBytes (take n (drop from s))
part_bytes s from n h = All-left (λ (x : ℕ). x < 256) (take n (drop from s)) (drop n (drop from s)) (rw (take-append-drop n (drop from s)) (rest_bytes s from h))

call_bytes : (k : ℕ) (b : List ℕ) → AreBytes b → CallBytes (call_with k b)
unfolding call_with
call_bytes zero b h = h
call_bytes (suc zero) b h = h
call_bytes (suc (suc zero)) b h = h
call_bytes (suc (suc (suc zero))) b h = tt
call_bytes (suc (suc (suc (suc k)))) b h = tt

calls_bytes : (calls : List Call) (s : List ℕ) → AreBytes s → read_calls s ≡ Some calls → All CallBytes calls
calls_bytes [] s h e = tt
calls_bytes (c ∷ calls) s h e =
    let f = first_call s c calls e in
    let t = f.there in
    (rw t.call (call_bytes t.k (take t.len (drop t.from s)) (part_bytes s t.from t.len h)), calls_bytes calls f.rest (rw t.follows (rest_bytes s t.size h)) f.others)

-- ## A history on a new table

pub run_follows : (s : List ℕ) (r : Rules) (history : List ℕ) (calls : List Call) → table_size ≤ length s → allowed r ≡ true → AreBytes history → read_calls history ≡ Some calls
    → store_in (table_through (new_table s r) calls) ≡ store_from (new_store r) calls
run_follows s r history calls h a b e =
    let n = new_follows s r h a in
    through_follows (new_table s r) calls (omega (arith, n.long)) (calls_bytes calls history b e)
    ∙ ap (λ (t : Store). store_from t calls) n.store
