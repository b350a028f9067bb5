-- What a call on the lists of an image answers and leaves, by what the call on its list store answers and leaves.
use Rattle.std.proofs.Common.{true, false, cond, List, [], ◌≡◌, ℕ, ◌≤◌, Ok, Err, length, sym, ◌∙◌, arith, le-ltb}
use borrow.Rule.Slice.PartMut.{put_mid}
use Rattle.model.specs.declared.Refusal.{Refusal}
use Rattle.model.specs.declared.Refusal.TheVariants.{NoSpace, CommandNotFound, BadLimits}
use Rattle.model.specs.Answers.{done, Result, unchanged}
use Rattle.model.specs.Output.{too_short, stores}
use Rattle.model.specs.Store as M
use Rattle.model.specs.Store.{Store}
use Rattle.model.specs.Handler as H
use Rattle.model.specs.Handler.{Device, of_store}
use Rattle.model.proofs.Facts.{by_test}
use Rattle.word.proofs.Frame.{placed_part}
use Rattle.table.specs.Layout.{table_size, store_in}
use Rattle.image.specs.Layout.{image_size, is_image, table_place, table_in, with_table}
use Rattle.image.specs.Parts.{device_in, has_lists}
use Rattle.image.specs.Asked.{asked_of, record_roomy}
use Rattle.image.proofs.Outside.{image_is}
use Rattle.image.proofs.Alone.{table_long}
use Rattle.commands.specs.Calls.{table_left}
use Rattle.commands.specs.Taken.{check_lists}

module _ {A : Type 0} where
  -- the record that a call on a list store stores, where it stores one
  abbrev pub stored_by : Result Store A → List ℕ
  stored_by r = cond (stores r.effects) (M.record_of r.state) []

  -- the record has room; else nothing changes
  abbrev pub roomy_in : ℕ → Store → Result Store A → Result Store A
  roomy_in room s r = cond (too_short room (stored_by r)) (unchanged s NoSpace) r

-- ## The table of an image

-- bytes whose commands are taken up are an image with a list store
pub checked : (s : List ℕ) → Ok tt ≡ check_lists s → (is_image s ≡ true) × (has_lists s ≡ true)
checked s e =
    by_test (is_image s) (λ i. by_test (has_lists s) (λ h. (i, h)) (λ h. let k = rw (i, h) at e in let z : ⊥ = cc in absurd z))
    (λ i. let k = rw i at e in let z : ⊥ = cc in absurd z)

pub image_long : (s : List ℕ) → is_image s ≡ true → image_size ≤ length s
image_long s i = (image_is s i).size

pub table_there : (s : List ℕ) → Ok tt ≡ check_lists s → table_size ≤ length (table_in s)
table_there s e = omega (arith, table_long s (checked s e).0)

module _ (s left : List ℕ) where
  pub left_there : is_image s ≡ true → has_lists s ≡ true → table_left s left ≡ with_table s left
  left_there i h = rw (i, h)

  pub left_none : is_image s ≡ true → has_lists s ≡ false → table_left s left ≡ s
  left_none i h = rw (i, h)

  -- where no command is taken up the image stays
  pub left_unchecked : (cause : Refusal) → Err cause ≡ check_lists s → table_left s left ≡ s
  left_unchecked cause e =
      by_test (is_image s)
      (λ i. by_test (has_lists s) (λ h. let k = rw (i, h) at e in let z : ⊥ = cc in absurd z) (left_none i)) (λ i. rw i)

  -- a table that is written in its place
  pub table_put : is_image s ≡ true → has_lists s ≡ true → length left ≡ length (table_in s)
      → put_mid table_place table_size s left ≡ table_left s left
  unfolding with_table
  table_put i h l =
      let k = image_long s i in
      placed_part s table_place table_size left (l ∙ table_long s i) (omega arith) ∙ sym (left_there i h)

-- ## Commands

module _ {A : Type 0} (s : List ℕ) (call : Store → Result Store A) (room : ℕ) where
  abbrev pub commanded : Result Device A
  commanded = record_roomy room (device_in s) (asked_of s (H.command (device_in s) (device_in s).store call))

  pub no_image : is_image s ≡ false → commanded ≡ unchanged (device_in s) BadLimits
  unfolding stores
  no_image i = rw (i, le-ltb room 0 (omega arith))

  pub no_lists : is_image s ≡ true → has_lists s ≡ false → commanded ≡ unchanged (device_in s) CommandNotFound
  unfolding stores
  no_lists i h = rw (i, h, le-ltb room 0 (omega arith))

  -- a command that is taken up is a call on the list store
  pub taken_up : is_image s ≡ true → has_lists s ≡ true
      → commanded ≡ of_store (device_in s) (roomy_in room (store_in (table_in s)) (call (store_in (table_in s))))
  taken_up i h =
      rw (i, h)
      (by_test (too_short room (stored_by (call (store_in (table_in s))))) (λ e. rw e) (λ e. rw e))

-- ## Load and reset

module _ (s : List ℕ) (call : Store → Result Store (Unit {0})) (i : is_image s ≡ true) where
  abbrev asked : Result Device (Unit {0})
  asked = asked_of s (H.lifecycle (device_in s) (device_in s).store call)

  pub lifecycle_there : has_lists s ≡ true → asked ≡ of_store (device_in s) (call (store_in (table_in s)))
  lifecycle_there h = rw (i, h)

  pub lifecycle_none : has_lists s ≡ false → asked ≡ record { state = device_in s; answer = done; effects = [] }
  lifecycle_none h = rw (i, h)
