-- A table follows the model's list store, call by call.
use Rattle.std.specs.Prelude.{Option, None, Some, Result, Ok, Err}
use Rattle.std.proofs.Common.{◌≡◌, ℕ, suc, ◌+◌, ◌<◌, ◌≤◌, Bool, true, false, cond, leb, List, [], ◌∷◌, length, get_or, sym, refl, ap, ◌∙◌, arith, lit<, leb-true}
use Rattle.model.specs.declared.Refusal.{Refusal}
use Rattle.model.specs.declared.Refusal.TheVariants as R
use Rattle.model.specs.Lists.{Name, Zone, Window, Lists, empty}
use Rattle.model.specs.Bytes.{number, record_bytes, read_zones, read_windows, read_record}
use Rattle.model.specs.Rules as M
use Rattle.model.specs.Rules.{Rules, demand, and_then, test_from, name_fits, zone_rule, window_rule, test_zones, test_windows}
use Rattle.model.specs.History.{SetTimeZone, SetDSTOffset, Load, after, verdict, windows_verdict, record_verdict, if_accepted, record_loaded}
use Rattle.model.specs.Store.{changed_by, time_zone_set, set_time_zone, windows_tested, windows_read, set_dst_offset, store_loaded, load, factory_reset, store_after}
use Rattle.model.specs.Output.{no_space, stored_by, lacks_room, store_after_sized}
use Rattle.model.specs.RoundTrip.{AreBytes, ZonesFit, WindowsFit, ListsFit}
use Rattle.model.proofs.Facts.{by_test}
use Rattle.model.proofs.Accepted.{entry, zone_meets, zones_fit, windows_fit, record_accepted, no_zones}
use Rattle.model.proofs.ReadBack as B
use Rattle.model.proofs.Stored.{limits}
use Rattle.rules.specs.Verdicts.{verdict_of, record_tested}
use Rattle.rules.proofs.Agree.{zones_are_lem, windows_are_lem}
use Rattle.word.specs.Place.{byte_at}
use Rattle.table.specs.Layout.{table_size, zone_limit_place, window_limit_place, zone_count_place, window_count_place, generation_place, zone_place, window_place, zone_at, window_at, entries_from, count_in, zones_in, windows_in, lists_in, rules_in, generation_in, store_in, with_zones, with_windows, with_lists, counted, new_bytes, new_table}
use Rattle.table.specs.Left.{time_zone_said, dst_offset_said, load_said, zones_left, time_zone_left, empties, windows_left, dst_offset_left, lists_left, load_left, reset_left}
use Rattle.table.specs.Laws.{NameRoom, NamesRoom, NewIsNew, TimeZoneFollows, DSTOffsetFollows, LoadFollows, ResetFollows, LengthsStay}
use Rattle.word.proofs.Frame.{length_placed, byte_in, word_in}
use Rattle.table.proofs.Written.{zones_written, windows_written}
use Rattle.table.proofs.Made.{length_new}
use Rattle.table.proofs.Requests.{zones_requested, windows_stay}
use Rattle.table.proofs.Records.{record_stored_lem}
use Rattle.table.proofs.Room.{zones_short, windows_short, zones_pass, zones_taken_lem, windows_set_lem, zones_said, windows_said, zones_stay}
use Rattle.table.proofs.Heads.{rules_parts, lists_parts, store_parts, windows_head, lists_head, length_counted, changed}

-- ## Accepted names have room

name_room : (n : Option Name) → name_fits n ≡ true → NameRoom n
name_room None h = tt
name_room (Some n) h = leb-true (length n) 64 h

names_from : (limit index : ℕ) (before : Option Zone) (zs : List Zone) → test_from limit zone_rule index before zs ≡ M.accepted → NamesRoom zs
names_from limit index before [] h = tt
names_from limit index before (z ∷ zs) h =
    let e = entry limit zone_rule index before z zs h in
    (name_room z.name (zone_meets index before z e.meets).name_fits_lem, names_from limit (suc index) (Some z) zs e.rest)

names_room : (r : Rules) (zs : List Zone) → test_zones r zs ≡ M.accepted → NamesRoom zs
unfolding test_zones
names_room r zs h = names_from r.zone_limit 0 None zs h

-- ## Windows that are turned down for what they say

abbrev Emptying : M.Verdict → Type 0
Emptying M.accepted = Unit {0}
Emptying (M.turned_down cause) = empties cause ≡ true

demanded : (t : Bool) (cause : Refusal) (rest : M.Verdict) → empties cause ≡ true → Emptying rest → Emptying (demand t cause rest)
unfolding demand
demanded true cause rest e h = h
demanded false cause rest e h = e

both : (v rest : M.Verdict) → Emptying v → Emptying rest → Emptying (and_then v rest)
unfolding and_then
both M.accepted rest h k = k
both (M.turned_down cause) rest h k = h

rule_empties : (index : ℕ) (before : Option Window) (w : Window) → Emptying (window_rule index before w)
unfolding window_rule
rule_empties index before w = demanded _ R.ConstraintError _ refl (demanded _ R.ConstraintError _ refl (demanded _ R.ConstraintError _ refl (demanded _ R.ConstraintError _ refl tt)))

from_empties : (limit index : ℕ) (before : Option Window) (ws : List Window) → Emptying (test_from limit window_rule index before ws)
unfolding test_from
from_empties limit index before [] = tt
from_empties limit index before (w ∷ ws) =
    demanded _ R.ResourceExhausted _ refl (both (window_rule index before w) _ (rule_empties index before w) (from_empties limit (suc index) (Some w) ws))

turned_down_lem : (v : M.Verdict) → Emptying v → (cause : Refusal) → v ≡ M.turned_down cause → empties cause ≡ true
turned_down_lem M.accepted h cause e = cc
turned_down_lem (M.turned_down other) h cause e = let q : other ≡ cause = cc in sym (ap empties q) ∙ h

windows_empty : (r : Rules) (ws : List Window) (cause : Refusal) → test_windows r ws ≡ M.turned_down cause → empties cause ≡ true
unfolding test_windows
windows_empty r ws = turned_down_lem (test_from r.window_limit window_rule 0 None ws) (from_empties r.window_limit 0 None ws)

-- ## Lists that are accepted, written

no_windows_fit : WindowsFit []
no_windows_fit = record { each = tt; few = lit< tt }

windows_back : (s : List ℕ) (ws : List Window) → table_size ≤ length s → length ws ≤ 16 → WindowsFit ws → lists_in (with_windows s ws) ≡ record { zones = zones_in s; windows = ws }
windows_back s ws h few f = let p = windows_written s ws h few f in lists_parts p.zones p.windows

lists_back : (s : List ℕ) (r : Rules) (l : Lists) → table_size ≤ length s → r.zone_limit ≤ 8 → test_zones r l.zones ≡ M.accepted → length l.windows ≤ 16 → ListsFit l → lists_in (with_lists s l) ≡ l
lists_back s r l h z a few f =
    let p = zones_written s l.zones h (omega (arith, zones_fit r l.zones a)) f.zones (names_room r l.zones a) in
    windows_back (with_zones s l.zones) l.windows (omega (arith, p.long)) few f.windows ∙ lists_parts p.zones refl

cond_same : {A : Type 0} (b : Bool) (x : A) → cond b x x ≡ x
cond_same true x = refl
cond_same false x = refl

-- ## SetTimeZone

module _ (s b : List ℕ) (room : ℕ) (h : table_size ≤ length s) (c : AreBytes b) where
  abbrev short : Bool
  short = zones_short s b room

  -- the model's store, by the verdict and the room
  zones_after : (v : M.Verdict) → verdict (rules_in s) (SetTimeZone b) ≡ v
      → store_after_sized (store_in s) (record { call = SetTimeZone b; room = room }) ≡ cond short (store_in s) (time_zone_set (store_in s) b v).state
  unfolding store_after_sized store_after set_time_zone
  zones_after v e = ap (λ (w : M.Verdict). cond short (store_in s) (time_zone_set (store_in s) b w).state) e

  zones_kept : (cause : Refusal) → time_zone_said s b room ≡ Err cause → store_in (time_zone_left s b room) ≡ store_in s
  zones_kept cause e = ap store_in (sym (zones_stay s b room cause e).1)

  module _ (e : verdict (rules_in s) (SetTimeZone b) ≡ M.accepted) where
    taken : short ≡ false → store_in (time_zone_left s b room) ≡ changed_by (store_in s) (SetTimeZone b)
    unfolding time_zone_left
    taken k =
        let a = zones_are_lem (rules_in s) b ∙ ap verdict_of e in
        let q = zones_requested (rules_in s).zone_limit b c a in
        let l : Lists = record { zones = q.list; windows = [] } in
        let f = (B.zones_written b q.list c q.is).1 in
        ap store_in (ap (λ (v : Result (Unit {0}) Refusal). zones_left v (read_zones b) s) (zones_said s b room (Ok tt) false a k) ∙ ap (λ (o : Option (List Zone)). zones_left (Ok tt) o s) q.is)
        ∙ changed s (with_lists s l) l h (lists_head s l) (lists_back s (rules_in s) l h (omega arith) (zones_pass (rules_in s) b q.list q.is e) (omega arith) (record { zones = f; windows = no_windows_fit }))
        ∙ store_parts refl (sym (zones_taken_lem (rules_in s) b (lists_in s) q.list q.is e)) refl

pub time_zone_follows : TimeZoneFollows
time_zone_follows s b room h c = go (verdict (rules_in s) (SetTimeZone b)) refl
  where
    go : (v : M.Verdict) → verdict (rules_in s) (SetTimeZone b) ≡ v → store_in (time_zone_left s b room) ≡ store_after_sized (store_in s) (record { call = SetTimeZone b; room = room })
    go (M.turned_down cause) e =
        zones_kept s b room h c cause (zones_said s b room (Err cause) (zones_short s b room) (zones_are_lem (rules_in s) b ∙ ap verdict_of e) refl)
        ∙ sym (zones_after s b room h c (M.turned_down cause) e ∙ cond_same (zones_short s b room) (store_in s))
    go M.accepted e =
        by_test (zones_short s b room)
        (λ k.
        zones_kept s b room h c R.NoSpace (zones_said s b room (Ok tt) true (zones_are_lem (rules_in s) b ∙ ap verdict_of e) k)
        ∙ sym (zones_after s b room h c M.accepted e ∙ ap (λ (x : Bool). cond x (store_in s) (changed_by (store_in s) (SetTimeZone b))) k))
        (λ k. taken s b room h c e k ∙ sym (zones_after s b room h c M.accepted e ∙ ap (λ (x : Bool). cond x (store_in s) (changed_by (store_in s) (SetTimeZone b))) k))

-- ## SetDSTOffset

module _ (s b : List ℕ) (room : ℕ) (h : table_size ≤ length s) (c : AreBytes b) where
  -- the model's store, by what is read and the room
  windows_after : (o : Option (List Window)) → read_windows b ≡ o
      → store_after_sized (store_in s) (record { call = SetDSTOffset b; room = room }) ≡ cond (windows_short s b room) (store_in s) (windows_read (store_in s) b o).state
  unfolding store_after_sized store_after set_dst_offset
  windows_after o e = ap (λ (p : Option (List Window)). cond (windows_short s b room) (store_in s) (windows_read (store_in s) b p).state) e

  windows_kept : (cause : Refusal) → dst_offset_said s b room ≡ Err cause → empties cause ≡ false → store_in (dst_offset_left s b room) ≡ store_in s
  unfolding dst_offset_left
  windows_kept cause e k = ap store_in (sym (windows_stay s (dst_offset_said s b room) cause (read_windows b) (sym e) k))

  unread : read_windows b ≡ None → store_in (dst_offset_left s b room) ≡ store_after_sized (store_in s) (record { call = SetDSTOffset b; room = room })
  unfolding verdict
  unread e =
      let v : verdict (rules_in s) (SetDSTOffset b) ≡ M.turned_down R.Unreadable = ap (windows_verdict (rules_in s)) e in
      windows_kept R.Unreadable (windows_said s b room (Err R.Unreadable) (windows_short s b room) (windows_are_lem (rules_in s) b ∙ ap verdict_of v) refl) refl
      ∙ sym (windows_after None e ∙ cond_same (windows_short s b room) (store_in s))

  module _ (ws : List Window) (e : read_windows b ≡ Some ws) where
    says : (v : M.Verdict) → test_windows (rules_in s) ws ≡ v → verdict (rules_in s) (SetDSTOffset b) ≡ v
    unfolding verdict
    says v a = ap (windows_verdict (rules_in s)) e ∙ a

    -- readable windows count a change, accepted or not
    counts : (v : M.Verdict) → (windows_tested (store_in s) b v).state ≡ changed_by (store_in s) (SetDSTOffset b)
    counts M.accepted = refl
    counts (M.turned_down cause) = refl

    with_room_lem : windows_short s b room ≡ false → store_after_sized (store_in s) (record { call = SetDSTOffset b; room = room }) ≡ changed_by (store_in s) (SetDSTOffset b)
    with_room_lem k =
        windows_after (Some ws) e ∙ ap (λ (x : Bool). cond x (store_in s) (windows_tested (store_in s) b (test_windows (rules_in s) ws)).state) k
        ∙ counts (test_windows (rules_in s) ws)

    -- the table that other windows leave
    left_with : (v : M.Verdict) (new : List Window) → test_windows (rules_in s) ws ≡ v → if_accepted v ws [] ≡ new → length new ≤ 16 → WindowsFit new
        → store_in (counted (with_windows s new)) ≡ changed_by (store_in s) (SetDSTOffset b)
    left_with v new a n few f =
        changed s (with_windows s new) (record { zones = zones_in s; windows = new }) h (windows_head s new) (windows_back s new h few f)
        ∙ store_parts refl (sym (windows_set_lem (rules_in s) b (lists_in s) ws v e a ∙ lists_parts refl n)) refl

    read : (v : M.Verdict) → test_windows (rules_in s) ws ≡ v → store_in (dst_offset_left s b room) ≡ store_after_sized (store_in s) (record { call = SetDSTOffset b; room = room })
    unfolding dst_offset_left no_space stored_by
    read M.accepted a =
        let t = windows_are_lem (rules_in s) b ∙ ap verdict_of (says M.accepted a) in
        by_test (windows_short s b room)
        (λ k.
        windows_kept R.NoSpace (windows_said s b room (Ok tt) true t k) refl
        ∙ sym (windows_after (Some ws) e ∙ ap (λ (x : Bool). cond x (store_in s) (windows_tested (store_in s) b (test_windows (rules_in s) ws)).state) k))
        (λ k.
        ap store_in (ap (λ (v : Result (Unit {0}) Refusal). windows_left v (read_windows b) s) (windows_said s b room (Ok tt) false t k) ∙ ap (λ (o : Option (List Window)). windows_left (Ok tt) o s) e)
        ∙ left_with M.accepted ws a refl (omega (arith, windows_fit (rules_in s) ws a)) (B.windows_written b ws c e).1 ∙ sym (with_room_lem k))
    read (M.turned_down cause) a =
        let v = says (M.turned_down cause) a in
        let t = windows_are_lem (rules_in s) b ∙ ap verdict_of v in
        let k : windows_short s b room ≡ false = ap (λ (w : M.Verdict). lacks_room room (if_accepted w (Some (record_bytes (after (rules_in s) (lists_in s) (SetDSTOffset b)))) None)) v in
        ap store_in
        (ap (λ (v : Result (Unit {0}) Refusal). windows_left v (read_windows b) s) (windows_said s b room (Err cause) (windows_short s b room) t refl)
        ∙ ap (λ (x : Bool). cond x (counted (with_windows s [])) s) (windows_empty (rules_in s) ws cause a))
        ∙ left_with (M.turned_down cause) [] a refl (omega arith) no_windows_fit ∙ sym (with_room_lem k)

pub dst_offset_follows : DSTOffsetFollows
dst_offset_follows s b room h c = go (read_windows b) refl
  where
    go : (o : Option (List Window)) → read_windows b ≡ o → store_in (dst_offset_left s b room) ≡ store_after_sized (store_in s) (record { call = SetDSTOffset b; room = room })
    go None e = unread s b room h c e
    go (Some ws) e = read s b room h c ws e (test_windows (rules_in s) ws) refl

-- ## Load

loaded_store : (s b : List ℕ) → table_size ≤ length s → AreBytes b → verdict (rules_in s) (Load (Some b)) ≡ M.accepted
    → store_in (lists_left (Ok tt) (read_record b) s) ≡ record { rules = rules_in s; lists = after (rules_in s) (lists_in s) (Load (Some b)); generation = generation_in s }
unfolding verdict after record_tested
loaded_store s b h c e =
    let q = record_stored_lem (rules_in s).zone_limit (rules_in s).window_limit b c (ap verdict_of e) in
    let l = q.lists in
    let a : record_verdict (rules_in s) (Some l) ≡ M.accepted = sym (ap (record_verdict (rules_in s)) q.is) ∙ e in
    let k = record_accepted (rules_in s) l a in
    let p = lists_head s l in
    ap (λ (o : Option Lists). store_in (lists_left (Ok tt) o s)) q.is
    ∙ store_parts p.rules
    (lists_back s (rules_in s) l h (omega arith) k.zones (omega (arith, windows_fit (rules_in s) l.windows k.windows)) (B.record_written b l c q.is).1
    ∙ sym (ap (record_loaded (rules_in s) (lists_in s)) q.is ∙ ap (λ (v : M.Verdict). if_accepted v l (lists_in s)) a))
    p.generation

pub load_follows : LoadFollows
unfolding load_left load_said record_tested store_after load
load_follows s b h c = go (verdict (rules_in s) (Load (Some b))) refl
  where
    loads : verdict (rules_in s) (Load (Some b)) ≡ M.accepted → store_in (lists_left (Ok tt) (read_record b) s) ≡ (store_loaded (store_in s) (Some b) M.accepted).state
    loads e = loaded_store s b h c e

    go : (v : M.Verdict) → verdict (rules_in s) (Load (Some b)) ≡ v
        → store_in (lists_left (verdict_of (verdict (rules_in s) (Load (Some b)))) (read_record b) s) ≡ (store_loaded (store_in s) (Some b) (verdict (rules_in s) (Load (Some b)))).state
    go M.accepted e = rw e (loads e)
    go (M.turned_down cause) e = rw e refl

-- ## Factory reset

no_zones_fit : ZonesFit []
no_zones_fit = record { each = tt; few = lit< tt }

pub reset_follows : ResetFollows
unfolding reset_left store_after factory_reset after
reset_follows s h =
    changed s (with_lists s empty) empty h (lists_head s empty)
    (lists_back s (rules_in s) empty h (omega arith) (no_zones (rules_in s)) (omega arith) (record { zones = no_zones_fit; windows = no_windows_fit }))

-- ## A new table

-- a count of 0 is 0 in any slice
none_counted : (place most : ℕ) (t : List ℕ) → byte_at t place ≡ 0 → count_in place most t ≡ 0
none_counted place most t e = by_test (leb table_size (length t)) (λ k. rw k (omega arith)) (λ k. rw k)

none_in : (t : List ℕ) → byte_at t zone_count_place ≡ 0 → zones_in t ≡ []
unfolding zones_in entries_from
none_in t e = ap (entries_from (λ i. zone_at t (zone_place i)) 0) (none_counted zone_count_place 8 t e)

none_there : (t : List ℕ) → byte_at t window_count_place ≡ 0 → windows_in t ≡ []
unfolding windows_in entries_from
none_there t e = ap (entries_from (λ i. window_at t (window_place i)) 0) (none_counted window_count_place 16 t e)

pub new_follows : NewIsNew
unfolding new_table new_bytes number
new_follows s r h a =
    let t = new_table s r in
    let m = limits r a in
    let f : 0 + length (new_bytes r) ≤ length s = omega (arith, length_new r) in
    let l = length_new r in
    let at : (i : ℕ) → i < table_size → byte_at t i ≡ get_or (new_bytes r) i 0 = λ i k. byte_in s 0 (new_bytes r) f i i (omega arith) (omega arith) in
    let z : byte_at t zone_limit_place ≡ r.zone_limit = at zone_limit_place (omega arith) in
    let w : byte_at t window_limit_place ≡ r.window_limit = at window_limit_place (omega arith) in
    let zn : byte_at t zone_count_place ≡ 0 = at zone_count_place (omega arith) in
    let wn : byte_at t window_count_place ≡ 0 = at window_count_place (omega arith) in
    let g : generation_in t ≡ 0 = word_in s 0 (new_bytes r) f 4 generation_place generation_place (omega arith) (omega arith) in
    record {
      store = store_parts (rules_parts (omega arith) (omega arith)) (lists_parts (none_in t zn) (none_there t wn)) g;
      long = length_placed s 0 (new_bytes r);
    }

-- ## Lengths

module _ (s : List ℕ) where
  zones_long : (v : Result (Unit {0}) Refusal) (o : Option (List Zone)) → length (zones_left v o s) ≡ length s
  zones_long (Ok tt) None = refl
  zones_long (Ok tt) (Some zs) = let l : Lists = record { zones = zs; windows = [] } in length_counted (with_lists s l) ∙ (lists_head s l).long
  zones_long (Err cause) o = refl

  windows_long : (v : Result (Unit {0}) Refusal) (o : Option (List Window)) → length (windows_left v o s) ≡ length s
  windows_long (Ok tt) None = refl
  windows_long (Ok tt) (Some ws) = length_counted (with_windows s ws) ∙ (windows_head s ws).long
  windows_long (Err cause) o = go (empties cause)
    where
      go : (b : Bool) → length (cond b (counted (with_windows s [])) s) ≡ length s
      go true = length_counted (with_windows s []) ∙ (windows_head s []).long
      go false = refl

  lists_long : (v : Result (Unit {0}) Refusal) (o : Option Lists) → length (lists_left v o s) ≡ length s
  lists_long (Ok tt) None = refl
  lists_long (Ok tt) (Some l) = (lists_head s l).long
  lists_long (Err cause) o = refl

pub lengths_stay : (s b : List ℕ) (room : ℕ) → LengthsStay s b room
unfolding time_zone_left dst_offset_left load_left reset_left
lengths_stay s b room =
    record {
      time_zone = zones_long s (time_zone_said s b room) (read_zones b);
      dst_offset = windows_long s (dst_offset_said s b room) (read_windows b);
      load = lists_long s (load_said s b) (read_record b);
      reset = length_counted (with_lists s empty) ∙ (lists_head s empty).long;
    }
