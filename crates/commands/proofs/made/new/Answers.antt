-- `made::new` meets its contract.
use Rattle.std.proofs.Common.{◌≡◌, not, sym, refl, ap, ◌∙◌, arith, length, le-leb, eq-eqb, ne_eqb}
use Rattle.std.proofs.lemmas.Bool.{false≢true}
use Rattle.model.specs.Rules.{allowed}
use Rattle.model.proofs.Facts.{by_test}
use Rattle.image.specs.Layout.{image_size}
use Rattle.image.specs.Parts.{new_bytes, new_image}
use Rattle.table.specs.Limits.{limits_of}
use Rattle.commands.specs.Calls.{new}
use Rattle.commands.proofs.made.new.Goals as goal
use Rattle.commands.proofs.made.new.Goals.{then-list_store-ne0, else-list_store-ne0}

pub returns : goal.returns
unfolding new new_image new_bytes
returns c =
    let a = c.args in
    let long = le-leb image_size (length a.image.now) c.if-image-lt-SIZE.false in
    let of : c.of-limits.result ≡ limits_of (record { zone_limit = a.zone_limit; window_limit = a.window_limit }) = grind arith in
    elim c.if-list_store-ne0.branch [
      | then-list_store-ne0 w ↦
          let there = ne_eqb a.list_store 0 w.if-list_store-ne0.true in
          by_test (allowed (record { zone_limit = a.zone_limit; window_limit = a.window_limit }))
          (λ fit. rw (there, fit, long) (refl, rw (c.put_new.ensures, c.flatten.ensures, c.given.ensures, there, of, fit)))
          (λ unfit.
          let z = rw (of, unfit) at w.is_none.ensures in
          absurd (false≢true (z ∙ ap not (sym w.value-is ∙ c.if-is_none.false))))
      | else-list_store-ne0 w ↦
          let none = eq-eqb a.list_store 0 w.if-list_store-ne0.false in
          rw (none, long) (refl, rw (c.put_new.ensures, c.flatten.ensures, c.given.ensures, none))
    ]
