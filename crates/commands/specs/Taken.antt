-- The parts of the calls that the functions inside answer.
use Rattle.std.specs.Prelude.{Bool, cond, List, [], ◌≡◌, ℕ, length, ok_or, None, Some, Ok, Err}
use Rattle.std.specs.Prelude.{Result as StdResult}
use Rattle.std.specs.Option.{option_zip}
use Rattle.std.specs.Result.{result_and}
use denote.Ref.{MutBor}
use Rattle.model.specs.declared.Refusal.{Refusal}
use Rattle.model.specs.declared.Refusal.TheVariants.{Unreadable, CommandNotFound, BadLimits, NoSpace}
use Rattle.model.specs.declared.TimeGranularity.{TimeGranularity}
use Rattle.model.specs.declared.TimeSource.{TimeSource}
use Rattle.model.specs.Numbers.{granularity_of, source_of, refusal_number}
use Rattle.model.specs.Codes.{returned}
use Rattle.model.specs.Output.{too_short, copied_over, truth}
use Rattle.model.specs.Store.{record_of}
use Rattle.rtc.specs.declared.Rtc.{Rtc}
use Rattle.rtc.specs.Meaning.{clock_of}
use Rattle.table.specs.Layout.{store_in}
use Rattle.image.specs.Layout.{is_image, table_in}
use Rattle.image.specs.Parts.{clock_in, has_lists, with_clock}
use Rattle.commands.specs.Calls.{table_left}

-- the granularity and the source of a setting of an image, where their numbers name them
abbrev pub setting_read : List ℕ → ℕ → ℕ → StdResult (TimeGranularity × TimeSource) Refusal
setting_read s granularity source =
    cond (is_image s) (ok_or (option_zip (granularity_of granularity) (source_of source)) Unreadable) (Err BadLimits)

-- what a setting returns and leaves, by what its call on the clock may answer: the clock after it, whether something changed, and what is
-- returned
abbrev pub Sets : (Rtc → TimeGranularity → TimeSource → Rtc × Bool × ℕ → Type 0) → List ℕ → StdResult (TimeGranularity × TimeSource) Refusal
    → ℕ → ℕ → List ℕ → ℕ → Type 0
Sets may s (Err cause) was n t m = (n ≡ returned (refusal_number cause) []) × (t ≡ s) × (m ≡ was)
Sets may s (Ok p) was n t m =
    (c : Rtc) × (r : Rtc × Bool × ℕ) × (clock_of c ≡ clock_in s) × may c p.0 p.1 r
    × (n ≡ r.2) × (t ≡ with_clock s (clock_of r.0)) × (m ≡ truth r.1)

-- whether a command on the lists is taken up, before its request is read
abbrev pub check_lists : List ℕ → StdResult (Unit {0}) Refusal
check_lists s = cond (is_image s) (cond (has_lists s) (Ok tt) (Err CommandNotFound)) (Err BadLimits)

-- ## A command on the lists, by what its call says of a table and leaves of it where there is so much room for the record

-- the length of the record of the table that is left, and the record at the front of the slice, where it has room
abbrev pub StoresRecord : List ℕ → List ℕ → StdResult (Unit {0}) Refusal → StdResult ℕ Refusal → List ℕ → Type 0
StoresRecord u out (Err cause) result o = (result ≡ Err cause) × (o ≡ out)
StoresRecord u out (Ok tt) result o =
    (result ≡ ok_or (cond (too_short (length out) (record_of (store_in u))) None (Some (length (record_of (store_in u))))) NoSpace)
    × (o ≡ cond (too_short (length out) (record_of (store_in u))) out (copied_over (record_of (store_in u)) out))

module _ (says : List ℕ → ℕ → StdResult (Unit {0}) Refusal) (leaves : List ℕ → ℕ → List ℕ) where
  -- a call that may say and leave no more than that
  abbrev pub IsCall : (MutBor (List ℕ) → ℕ → StdResult (Unit {0}) Refusal → MutBor (List ℕ) → Type 0) → Type 0
  IsCall may =
      (t : MutBor (List ℕ)) (room : ℕ) (said : StdResult (Unit {0}) Refusal) (u : MutBor (List ℕ)) → may t room said u
      → (said ≡ says t.now room) × (u.now ≡ leaves t.now room)

  -- what is answered, the image and the slice
  abbrev pub Stores : List ℕ → List ℕ → StdResult ℕ Refusal → List ℕ → List ℕ → Type 0
  Stores s out result t o =
      (t ≡ table_left s (leaves (table_in s) (length out)))
      × StoresRecord (leaves (table_in s) (length out)) out (result_and (check_lists s) (says (table_in s) (length out))) result o
