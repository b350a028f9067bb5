-- `lists::load_lists` meets its contract.
use Rattle.std.proofs.Common.{true, false, List, ◌≡◌, ℕ, Option, None, Some, sym, refl, ◌∙◌, arith, eq-eqb, ne_eqb}
use borrow.Rule.Slice.PartMut.{put_mid}
use Rattle.model.specs.Bytes.{number}
use Rattle.model.specs.Codes.{returned}
use Rattle.model.specs.Rules as R
use Rattle.model.specs.History.{verdict}
use Rattle.model.specs.Store as M
use Rattle.model.specs.Handler as H
use Rattle.model.specs.Handler.{of_store}
use Rattle.rules.specs.Verdicts.{verdict_of}
use Rattle.table.specs.Layout.{table_size, store_in}
use Rattle.table.specs.Left.{load_said, load_left}
use Rattle.table.proofs.Follows.{lengths_stay}
use Rattle.image.specs.Layout.{is_image, table_place, table_in}
use Rattle.image.specs.Parts.{device_in, has_lists}
use Rattle.image.specs.Asked.{given}
use Rattle.commands.specs.Calls.{table_left, lists_loaded, load_lists, returned_by}
use Rattle.commands.proofs.Told.{image_long, table_put}
use Rattle.commands.proofs.Verdicts.{load_told}
use Rattle.commands.proofs.lists.load_lists.Goals as goal
use Rattle.commands.proofs.lists.load_lists.Goals.{then-not-has_lists-via-then-not-has_lists, then-not-has_lists-via-else-not-has_lists+then-there-eq0}

module _ (s : List ℕ) (i : is_image s ≡ true) where
  no_store : has_lists s ≡ false → (stored : Option (List ℕ)) → (0 ≡ (load_lists s stored).returned) × (s ≡ (load_lists s stored).image)
  unfolding lists_loaded H.load_lists returned number
  no_store h None = rw (i, h) (refl, refl)
  no_store h (Some b) = rw (i, h) (refl, refl)

  module _ (h : has_lists s ≡ true) where
    no_record : (0 ≡ (load_lists s None).returned) × (s ≡ (load_lists s None).image)
    unfolding lists_loaded H.load_lists M.load verdict returned number
    no_record = rw (i, h) (refl, refl)

    -- what is returned, by what is said of the record
    loaded : (b : List ℕ) (v : R.Verdict) → load_said (table_in s) b ≡ verdict_of v
        → returned_by (of_store (device_in s) (M.store_loaded (store_in (table_in s)) (Some b) v)) ≡ returned_by (lists_loaded s (Some b))
    unfolding lists_loaded H.load_lists
    loaded b v e = rw (i, h, load_told (table_in s) b v e)

    -- and the image that is left
    left : (b : List ℕ) → put_mid table_place table_size s (load_left (table_in s) b) ≡ table_left s (load_left (table_in s) b)
    left b = table_put s (load_left (table_in s) b) i h (lengths_stay (table_in s) b 0).load

pub returns-then-not-has_lists : goal.returns-then-not-has_lists
returns-then-not-has_lists c =
    let a = c.args in
    let s = a.image.now in
    let i = sym c.if-not-is_image.ensures in
    elim c.then-not-has_lists.branch [
      | then-not-has_lists-via-then-not-has_lists w ↦ no_store s i (sym w.if-not-has_lists.ensures) (given a.there a.stored.now)
      | then-not-has_lists-via-else-not-has_lists+then-there-eq0 w ↦
          rw (eq-eqb a.there 0 w.if-there-eq0.true) (no_record s i (sym w.if-not-has_lists.ensures))
    ]

pub slice_bounds-load-end : goal.slice_bounds-load-end
slice_bounds-load-end c = omega (arith, image_long c.args.image.now (sym c.if-not-is_image.ensures))

pub returns-in-Ok : goal.returns-in-Ok
unfolding returned number
returns-in-Ok c =
    let s = c.args.image.now in
    let b = c.args.stored.now in
    let i = sym c.if-not-is_image.ensures in
    let h = sym c.if-not-has_lists.ensures in
    rw (ne_eqb c.args.there 0 c.if-there-eq0.false, c.load.ensures.1)
    (loaded s i h b R.accepted (sym c.load.ensures.0 ∙ c.in-Ok.is), left s i h b)

pub returns-in-Err : goal.returns-in-Err
returns-in-Err c =
    let s = c.args.image.now in
    let b = c.args.stored.now in
    let i = sym c.if-not-is_image.ensures in
    let h = sym c.if-not-has_lists.ensures in
    rw (ne_eqb c.args.there 0 c.if-there-eq0.false, c.load.ensures.1)
    (c.refusal-in-Err.ensures ∙ loaded s i h b (R.turned_down c.in-Err.cause) (sym c.load.ensures.0 ∙ c.in-Err.is), left s i h b)
