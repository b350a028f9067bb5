-- What a call on an image answers, and what it leaves in what its caller lends.
use Rattle.std.specs.Prelude.{cond, List, [], ℕ, eqb, Option, None, Some}
use Rattle.model.specs.declared.Refusal.TheVariants.{BadLimits, NoSpace}
use Rattle.model.specs.Answers.{Answer, refused, Result, unchanged}
use Rattle.model.specs.Output.{too_short, stores}
use Rattle.model.specs.Handler.{Device, record_of}
use Rattle.image.specs.Layout.{is_image}
use Rattle.image.specs.Parts.{device_in}

-- an argument that is there where its mark is not 0
module _ {A : Type 0} where
  abbrev pub given : ℕ → A → Option A
  given mark a = cond (eqb mark 0) None (Some a)

  -- ## Readings

  -- a buffer that is not an image is refused with BadLimits
  abbrev pub asked : List ℕ → Answer A → Answer A
  asked s a = cond (is_image s) a (refused BadLimits)

-- ## Calls with effects

module _ {A : Type 0} where
  -- a buffer that is not an image: nothing changes
  abbrev pub asked_of : List ℕ → Result Device A → Result Device A
  asked_of s r = cond (is_image s) r (unchanged (device_in s) BadLimits)

  -- the record that a call stores, where it stores one: that of the lists that it leaves
  abbrev pub record_stored : Result Device A → List ℕ
  record_stored r = cond (stores r.effects) (record_of r.state) []

  -- it has room in the slice; tested last, and else nothing changes
  abbrev pub record_roomy : ℕ → Device → Result Device A → Result Device A
  record_roomy room d r = cond (too_short room (record_stored r)) (unchanged d NoSpace) r
