-- What a call leaves of an image with a list store: of the lists what the rules make of it.
use Rattle.std.specs.Prelude.{None, Some}
use mathlib.Core.Bool.{true}
use mathlib.Core.List.{List, []}
use mathlib.Core.Path.{◌≡◌, refl, sym, ap, ◌∙◌}
use Prim.Native.Nat.{ℕ}
use native.Mathlib.Omega.{arith}
use lib.ListN.{length}
use Rattle.model.specs.Basics.{run}
use Rattle.model.specs.Lists.{Lists}
use Rattle.model.specs.Answers.{Answer, refused, answers, Result}
use Rattle.model.specs.History as M
use Rattle.model.specs.Store.{Store, store_after}
use Rattle.model.specs.Output.{SizedCall, stored_by, no_space, after_sized, store_after_sized, leaves}
use Rattle.model.specs.RoundTrip.{AreBytes}
use Rattle.model.specs.Clock.{Clock}
use Rattle.model.specs.Timer.{Look}
use Rattle.model.specs.Retries.{Step}
use Rattle.model.specs.Handler.{Device}
use Rattle.model.proofs.Demand3.{rules_sized, lists_sized}
use Rattle.table.specs.Layout.{table_size, rules_in, lists_in, store_in}
use Rattle.table.specs.Left as T
use Rattle.table.proofs.Follows.{time_zone_follows, dst_offset_follows, load_follows, reset_follows, lengths_stay}
use Rattle.image.specs.Layout.{is_image, table_in, with_table}
use Rattle.image.specs.Parts.{has_lists, with_clock}
use Rattle.image.proofs.Alone.{clock_written, timer_written, client_written, table_written, table_long}
use Rattle.commands.specs.Calls as C
use Rattle.steps.specs.Steps as S
use Rattle.claim.specs.Histories.{Entry, set_time_zone, set_dst_offset, load_lists, reset_lists, set_utc_time_command, set_trusted_time_source, rtc_set_utc_time, rtc_set_utc_time_persist, load_clock, reset_clock, look, attempt, source_changed, image_next, list_call, EntryBytes}

-- an image with a list store or without as `s`, with the same limits, and with the lists `l`
pub record Left (s : List ℕ) (l : Lists) (t : List ℕ) : Type 0 where
  pub image : is_image t ≡ true
  pub there : has_lists t ≡ has_lists s
  pub rules : rules_in (table_in t) ≡ rules_in (table_in s)
  pub lists : lists_in (table_in t) ≡ l

-- the lists of an image
abbrev pub lists_of : List ℕ → Lists
lists_of s = lists_in (table_in s)

-- nothing changes
stays : (s : List ℕ) → is_image s ≡ true → Left s (lists_of s) s
stays s i = record { image = i; there = refl; rules = refl; lists = refl }

-- ## The calls on the lists

module _ (s : List ℕ) (i : is_image s ≡ true) where
  -- a table that follows the model's call is written
  followed : (u : List ℕ) (a : SizedCall) → length u ≡ table_size → store_in u ≡ store_after_sized (store_in (table_in s)) a
      → Left s (after_sized (rules_in (table_in s)) (lists_of s) a) (with_table s u)
  followed u a n e =
      let w = table_written s u i n in
      record {
        image = w.image;
        there = w.there;
        rules = ap rules_in w.table ∙ ap (λ (x : Store). x.rules) e ∙ rules_sized (store_in (table_in s)) a;
        lists = ap lists_in w.table ∙ ap (λ (x : Store). x.lists) e ∙ lists_sized (store_in (table_in s)) a;
      }

  -- calls that store nothing always have room
  module _ (a : SizedCall) (q : stored_by (rules_in (table_in s)) (lists_of s) a.call ≡ None) where
    roomy_call : store_after_sized (store_in (table_in s)) a ≡ store_after (store_in (table_in s)) a.call
    unfolding store_after_sized no_space
    roomy_call = rw q

  long : (u : List ℕ) → length u ≡ length (table_in s) → length u ≡ table_size
  long u e = e ∙ table_long s i

  module _ (m : has_lists s ≡ true) where
    room_for : table_size ≡ length (table_in s)
    room_for = omega (arith, table_long s i)

    time_zone_left_lem : (b : List ℕ) (room : ℕ) → AreBytes b
        → Left s (after_sized (rules_in (table_in s)) (lists_of s) (record { call = M.SetTimeZone b; room = room })) (C.zones_image s b room)
    time_zone_left_lem b room c =
        rw (i, m)
        (followed (T.time_zone_left (table_in s) b room) (record { call = M.SetTimeZone b; room = room })
        (long (T.time_zone_left (table_in s) b room) (lengths_stay (table_in s) b room).time_zone) (time_zone_follows (table_in s) b room (omega (arith, room_for)) c))

    dst_offset_left_lem : (b : List ℕ) (room : ℕ) → AreBytes b
        → Left s (after_sized (rules_in (table_in s)) (lists_of s) (record { call = M.SetDSTOffset b; room = room })) (C.windows_image s b room)
    dst_offset_left_lem b room c =
        rw (i, m)
        (followed (T.dst_offset_left (table_in s) b room) (record { call = M.SetDSTOffset b; room = room })
        (long (T.dst_offset_left (table_in s) b room) (lengths_stay (table_in s) b room).dst_offset) (dst_offset_follows (table_in s) b room (omega (arith, room_for)) c))

    load_left_lem : (b : List ℕ) → AreBytes b
        → Left s (after_sized (rules_in (table_in s)) (lists_of s) (record { call = M.Load (Some b); room = 0 })) (C.load_lists s (Some b)).image
    unfolding stored_by
    load_left_lem b c =
        let a : SizedCall = record { call = M.Load (Some b); room = 0 } in
        rw (i, m)
        (followed (T.load_left (table_in s) b) a (long (T.load_left (table_in s) b) (lengths_stay (table_in s) b 0).load)
        (load_follows (table_in s) b (omega (arith, room_for)) c ∙ sym (roomy_call a refl)))

    reset_left_lem : Left s (after_sized (rules_in (table_in s)) (lists_of s) (record { call = M.FactoryReset; room = 0 })) (C.reset_lists s).image
    unfolding stored_by
    reset_left_lem =
        let a : SizedCall = record { call = M.FactoryReset; room = 0 } in
        rw (i, m)
        (followed (T.reset_left (table_in s)) a (long (T.reset_left (table_in s)) (lengths_stay (table_in s) [] 0).reset)
        (reset_follows (table_in s) (omega (arith, room_for)) ∙ sym (roomy_call a refl)))

  -- no record leaves the lists
  nothing_loaded : Left s (after_sized (rules_in (table_in s)) (lists_of s) (record { call = M.Load None; room = 0 })) s
  unfolding after_sized no_space stored_by M.after
  nothing_loaded = stays s i

  -- ## The other calls write other parts where they are taken, and else nothing

  clock_kept : {A : Type 0} (a : Answer A) (c : Clock) → Left s (lists_of s) (leaves a (λ x. with_clock s c) s)
  clock_kept (refused cause) c = stays s i
  clock_kept (answers x) c =
      let w = clock_written s c i in
      record { image = w.image; there = w.there; rules = ap rules_in w.table; lists = ap lists_in w.table }

  pub call_kept : {A : Type 0} (p : Result Device A) → Left s (lists_of s) (C.clock_left s p)
  call_kept p = clock_kept p.answer p.state.clock

  pub look_kept : (a : Answer Look) → Left s (lists_of s) (S.look_left s a)
  look_kept (refused cause) = stays s i
  look_kept (answers p) =
      let w = timer_written s p.timer i in
      record { image = w.image; there = w.there; rules = ap rules_in w.table; lists = ap lists_in w.table }

  pub change_kept : (a : Answer Step) → Left s (lists_of s) (S.change_left s a)
  change_kept (refused cause) = stays s i
  change_kept (answers p) =
      let w = client_written s p.client i in
      record { image = w.image; there = w.there; rules = ap rules_in w.table; lists = ap lists_in w.table }

  pub attempt_kept : (a : Answer Step) → Left s (lists_of s) (S.attempt_left s a)
  attempt_kept (refused cause) = stays s i
  attempt_kept (answers p) =
      let w = clock_written s p.clock i in
      let v = client_written (with_clock s p.clock) p.client w.image in
      record {
        image = v.image;
        there = v.there ∙ w.there;
        rules = ap rules_in (v.table ∙ w.table);
        lists = ap lists_in (v.table ∙ w.table);
      }

-- ## Any call

pub next_left : (s : List ℕ) → is_image s ≡ true → has_lists s ≡ true → (e : Entry) → EntryBytes e
    → Left s (run (after_sized (rules_in (table_in s))) (lists_of s) (list_call e)) (image_next s e)
unfolding run
next_left s i m (set_time_zone b room) h = time_zone_left_lem s i m b room h.0
next_left s i m (set_dst_offset b room) h = dst_offset_left_lem s i m b room h.0
next_left s i m (load_lists None) h = nothing_loaded s i
next_left s i m (load_lists (Some b)) h = load_left_lem s i m b h.0
next_left s i m reset_lists h = reset_left_lem s i m
next_left s i m (set_utc_time_command utc granularity source tick) h = call_kept s i (C.utc_time_set s utc granularity source tick)
next_left s i m (set_trusted_time_source fabric named) h = call_kept s i (C.source_set s fabric named)
next_left s i m (rtc_set_utc_time utc granularity source tick) h = call_kept s i (C.clock_set s utc granularity source tick)
next_left s i m (rtc_set_utc_time_persist utc granularity source tick) h = call_kept s i (C.clock_set_persist s utc granularity source tick)
next_left s i m (load_clock build moment source) h = call_kept s i (C.clock_loaded s build moment source)
next_left s i m (reset_clock build) h = call_kept s i (C.clock_reset s build)
next_left s i m (look tick room) h = look_kept s i (S.look s tick room)
next_left s i m (attempt outcome tick) h = attempt_kept s i (S.attempt s outcome tick)
next_left s i m source_changed h = change_kept s i (S.source_changed s)
