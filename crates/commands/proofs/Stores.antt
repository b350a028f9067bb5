-- What a command on the lists returns, leaves and stores, by what the image and its table say of the request.
use Rattle.std.proofs.Common.{Bool, true, false, cond, List, [], ◌≡◌, ℕ, Ok, Err, length, refl}
use Rattle.std.specs.Prelude.{Result as StdResult}
use Rattle.std.specs.Result.{result_and}
use Rattle.model.specs.declared.Refusal.{Refusal}
use Rattle.model.specs.declared.Refusal.TheVariants.{CommandNotFound, BadLimits}
use Rattle.model.specs.Numbers.{refusal_number}
use Rattle.model.specs.Basics.{when}
use Rattle.model.specs.Answers.{Effect, wake_timer, Result, unchanged}
use Rattle.model.specs.Codes.{returned}
use Rattle.model.specs.Output.{copied_over, stores}
use Rattle.model.specs.RoundTrip.{AreBytes}
use Rattle.model.specs.Store as M
use Rattle.model.specs.Store.{Store}
use Rattle.model.specs.Handler.{Device}
use Rattle.model.proofs.Facts.{by_test}
use Rattle.table.specs.Layout.{store_in}
use Rattle.table.specs.Left.{empties, time_zone_said, time_zone_left, dst_offset_said, dst_offset_left}
use Rattle.image.specs.Layout.{is_image, table_in}
use Rattle.image.specs.Parts.{device_in, has_lists}
use Rattle.image.specs.Asked.{record_stored}
use Rattle.commands.specs.Calls.{returned_by, table_left}
use Rattle.commands.specs.Taken.{check_lists, StoresRecord, Stores}
use Rattle.commands.proofs.Told.{commanded, no_image, no_lists, taken_up, table_there}
use Rattle.commands.proofs.Verdicts.{has_room, Tells, zones_effects, zones_tell, windows_effects, windows_refused, windows_tell}

-- the effects of a command that is taken and of a refusal; that of a command that is not taken up has none
pub record Effects (taken : List Effect) (turned_down : Refusal → List Effect) : Type 0 where
  pub stored : stores taken ≡ true
  pub not_stored : (cause : Refusal) → stores (turned_down cause) ≡ false
  pub no_image : turned_down BadLimits ≡ []
  pub no_lists : turned_down CommandNotFound ≡ []

module _ {A : Type 0} (s left out : List ℕ) (used : ℕ) (call : Store → Result Store A) (taken : List Effect)
    (turned_down : Refusal → List Effect) where
  abbrev r : Result Device A
  r = commanded s call (length out)

  -- what is returned, the image and the slice that are left, and how many bytes of it are used
  abbrev pub Ends : ℕ → List ℕ → List ℕ → ℕ → Type 0
  Ends n t o m =
      (n ≡ returned_by r) × (t ≡ table_left s left) × (o ≡ copied_over (record_stored r) out)
      × (m ≡ cond (stores r.effects) (length (record_stored r)) used)

  abbrev pub EndsBy : StdResult ℕ Refusal → List ℕ → List ℕ → Type 0
  EndsBy (Ok n) t o = Ends (returned 0 taken) t o n
  EndsBy (Err cause) t o = Ends (returned (refusal_number cause) (turned_down cause)) t o used

  module _ (f : Effects taken turned_down) {v : StdResult (Unit {0}) Refusal}
      (w : Ok tt ≡ check_lists s → Tells (table_in s) (length out) call taken turned_down v left) (result : StdResult ℕ Refusal) (t o : List ℕ)
      (g : t ≡ table_left s left) where
    not_taken : (cause : Refusal) → r ≡ unchanged (device_in s) cause → turned_down cause ≡ [] → StoresRecord left out (Err cause) result o
        → EndsBy result t o
    unfolding stores
    not_taken cause e k p = rw (p.0, p.1, k, e) (refl, g, refl, refl)

    there : is_image s ≡ true → has_lists s ≡ true → (k : StdResult (Unit {0}) Refusal) → v ≡ k → StoresRecord left out k result o
        → EndsBy result t o
    there i h (Err cause) m p =
        let q = (w (rw (i, h))).refused cause m in
        rw (p.0, p.1, taken_up s call (length out) i h, q.answer, q.asks, f.not_stored cause) (refl, g, refl, refl)
    there i h (Ok tt) m p =
        let x = w (rw (i, h)) in
        let q = x.accepted m in
        let k = store_in (table_in s) in
        let room = rw (q.asks, f.stored) at (has_room (length out) k (call k) q.value q.answer) in
        rw (p.0, p.1, x.follows, room, taken_up s call (length out) i h, q.answer, q.asks, f.stored) (refl, g, refl, refl)

    pub ends : StoresRecord left out (result_and (check_lists s) v) result o → EndsBy result t o
    ends p =
        by_test (is_image s)
        (λ i.
        by_test (has_lists s) (λ h. let q = rw (i, h) at p in there i h v refl q)
        (λ h. let q = rw (i, h) at p in not_taken CommandNotFound (no_lists s call (length out) i h) f.no_lists q))
        (λ i. let q = rw i at p in not_taken BadLimits (no_image s call (length out) i) f.no_image q)

-- a wake stores nothing
woken : (b : Bool) → stores (when b wake_timer) ≡ false
unfolding stores
woken true = refl
woken false = refl

module _ (s b out : List ℕ) (used : ℕ) (c : AreBytes b) (result : StdResult ℕ Refusal) (t o : List ℕ) where
  pub zones_end : Stores (λ u n. time_zone_said u b n) (λ u n. time_zone_left u b n) s out result t o
      → EndsBy s (time_zone_left (table_in s) b (length out)) out used (λ x. M.set_time_zone x b) zones_effects (λ cause. []) result t o
  unfolding stores
  zones_end k =
      ends s (time_zone_left (table_in s) b (length out)) out used (λ x. M.set_time_zone x b) zones_effects (λ cause. [])
      (record { stored = refl; not_stored = λ cause. refl; no_image = refl; no_lists = refl })
      (λ e. zones_tell (table_in s) b (length out) (table_there s e) c) result t o k.0 k.1

  pub windows_end : Stores (λ u n. dst_offset_said u b n) (λ u n. dst_offset_left u b n) s out result t o
      → EndsBy s (dst_offset_left (table_in s) b (length out)) out used (λ x. M.set_dst_offset x b) windows_effects windows_refused result t o
  unfolding stores
  windows_end k =
      ends s (dst_offset_left (table_in s) b (length out)) out used (λ x. M.set_dst_offset x b) windows_effects windows_refused
      (record { stored = refl; not_stored = λ cause. woken (empties cause); no_image = refl; no_lists = refl })
      (λ e. windows_tell (table_in s) b (length out) (table_there s e) c) result t o k.0 k.1
