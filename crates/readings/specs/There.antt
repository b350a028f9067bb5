-- Whether a list store can be read.
use Rattle.std.specs.Prelude.{cond, List, ℕ, Result, Ok, Err}
use Rattle.model.specs.declared.Refusal.{Refusal}
use Rattle.model.specs.declared.Refusal.TheVariants.{AttributeNotFound, BadLimits}
use Rattle.model.specs.Answers.{Answer, refused, answers}
use Rattle.image.specs.Layout.{is_image, table_in}
use Rattle.image.specs.Parts.{has_lists}

-- the table of an image with a list store; else the refusal
unfoldable pub table_read : List ℕ → Answer (List ℕ)
table_read s = cond (is_image s) (cond (has_lists s) (answers (table_in s)) (refused AttributeNotFound)) (refused BadLimits)

module _ {A : Type 0} where
  -- what a function inside answers
  abbrev pub told : Result A Refusal → Answer A
  told (Ok a) = answers a
  told (Err cause) = refused cause

  -- a number of what is read
  abbrev pub counted : Answer A → (A → ℕ) → Answer ℕ
  counted (refused cause) n = refused cause
  counted (answers a) n = answers (n a)
