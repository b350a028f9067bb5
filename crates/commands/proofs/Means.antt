-- The image that a call on the lists leaves stands for the device that the model's call leaves.
use Rattle.std.specs.Prelude.{Result as StdResult}
use Rattle.std.proofs.Common.{true, List, [], ◌≡◌, ℕ, ◌≤◌, Option, None, Some, length, ◌∙◌, arith}
use Rattle.model.specs.declared.Refusal.{Refusal}
use Rattle.model.specs.Answers.{Effect, Result}
use Rattle.model.specs.History.{verdict, after}
use Rattle.model.specs.Store as M
use Rattle.model.specs.Store.{Store}
use Rattle.model.specs.RoundTrip.{AreBytes}
use Rattle.model.specs.Handler as H
use Rattle.model.specs.Handler.{Device}
use Rattle.model.proofs.Facts.{by_test}
use Rattle.table.specs.Layout.{table_size, store_in}
use Rattle.table.specs.Left.{load_left, reset_left}
use Rattle.table.proofs.Follows.{load_follows, reset_follows, lengths_stay}
use Rattle.image.specs.Layout.{is_image, table_in}
use Rattle.image.specs.Parts.{clock_in, device_in, has_lists}
use Rattle.image.specs.Asked.{asked_of}
use Rattle.image.proofs.Alone.{table_written, table_long}
use Rattle.commands.specs.Calls.{table_left, zones_set, zones_image, windows_set, windows_image, lists_loaded, load_lists, lists_reset, reset_lists}
use Rattle.commands.specs.Laws.{StoredBytes, CallsMean}
use Rattle.commands.proofs.Told.{left_there, left_none, commanded, no_lists, taken_up, lifecycle_there, lifecycle_none}
use Rattle.commands.proofs.Verdicts.{Tells, zones_tell, windows_tell}

module _ (s : List ℕ) (i : is_image s ≡ true) where
  abbrev t : List ℕ
  t = table_in s

  abbrev d : Device
  d = device_in s

  long : table_size ≤ length t
  long = omega (arith, table_long s i)

  -- another table is another list store, and no more
  device_left : (u : List ℕ) → length u ≡ length t → has_lists s ≡ true
      → device_in (table_left s u) ≡ record { clock = clock_in s; store = Some (store_in u) }
  device_left u l h =
      let w = table_written s u i (l ∙ table_long s i) in
      rw (left_there s u i h, w.there, h, w.clock, w.table)

  command_means : {A : Type 0} {room : ℕ} {call : Store → Result Store A} {taken : List Effect} {turned_down : Refusal → List Effect}
      {said : StdResult (Unit {0}) Refusal} {left : List ℕ}
      → Tells t room call taken turned_down said left → device_in (table_left s left) ≡ (commanded s call room).state
  command_means {room = room} {call = call} {left = left} w =
      by_test (has_lists s) (λ h. device_left left w.long h ∙ rw (w.follows, taken_up s call room i h))
      (λ h. rw (left_none s left i h, no_lists s call room i h))

  module _ (call : Store → Result Store (Unit {0})) (left : List ℕ) (l : length left ≡ length t) where
    pub lifecycle_means : store_in left ≡ (call (store_in t)).state
        → device_in (table_left s left) ≡ (asked_of s (H.lifecycle d d.store call)).state
    lifecycle_means f =
        by_test (has_lists s) (λ h. device_left left l h ∙ rw (f, lifecycle_there s call i h))
        (λ h. rw (left_none s left i h, lifecycle_none s call i h))

  -- a load of no record leaves the device
  none_means : d ≡ (lists_loaded s None).state
  unfolding lists_loaded H.load_lists M.load verdict after
  none_means = by_test (has_lists s) (λ h. rw (i, h)) (λ h. rw (i, h))

  pub zones_mean : (b : List ℕ) (room : ℕ) → AreBytes b → device_in (zones_image s b room) ≡ (zones_set s b room).state
  unfolding zones_set H.set_time_zone
  zones_mean b room c = command_means (zones_tell t b room long c)

  pub windows_mean : (b : List ℕ) (room : ℕ) → AreBytes b → device_in (windows_image s b room) ≡ (windows_set s b room).state
  unfolding windows_set H.set_dst_offset
  windows_mean b room c = command_means (windows_tell t b room long c)

  pub load_means : (stored : Option (List ℕ)) → StoredBytes stored → device_in (load_lists s stored).image ≡ (lists_loaded s stored).state
  unfolding lists_loaded H.load_lists M.store_after
  load_means None c = none_means
  load_means (Some b) c = lifecycle_means (λ (x : Store). M.load x (Some b)) (load_left t b) (lengths_stay t b 0).load (load_follows t b long c)

  pub reset_means : device_in (reset_lists s).image ≡ (lists_reset s).state
  unfolding lists_reset H.reset_lists M.store_after
  reset_means = lifecycle_means (λ (x : Store). M.factory_reset x) (reset_left t) (lengths_stay t [] 0).reset (reset_follows t long)

pub calls_mean : CallsMean
calls_mean s i = record { zones = zones_mean s i; windows = windows_mean s i; load = load_means s i; reset = reset_means s i }
