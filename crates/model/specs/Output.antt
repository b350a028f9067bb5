-- Calls that copy bytes into an output slice: NoSpace where the slice is too short, and what a history with such calls makes of the lists.
use Rattle.std.specs.Prelude.{Bool, true, false, cond, List, [], ◌∷◌, ◌++◌, ℕ, ltb, ℤ, pos, length, drop, Option, None, Some}
use Rattle.model.specs.declared.Refusal.TheVariants.{NoSpace}
use Rattle.model.specs.Basics.{run}
use Rattle.model.specs.Lists.{Name, Lists, empty}
use Rattle.model.specs.Answers.{Answer, refused, answers, Effect, report, emit, wake_timer, wake_client, store_record, remove_record, store_moment, remove_moment, store_source, remove_source}
use Rattle.model.specs.Rules.{Rules}
use Rattle.model.specs.Bytes.{bytes, all_bytes, record_bytes}
use Rattle.model.specs.History.{Call, SetTimeZone, SetDSTOffset, Load, FactoryReset, verdict, if_accepted, after}
use Rattle.model.specs.Store.{Store, store_after}

-- ## One copy

-- an output slice of `room` bytes is shorter than what is copied into it
abbrev pub too_short : ℕ → List ℕ → Bool
too_short room copied = ltb room (length copied)

-- what is copied stands at the front of the slice; the bytes past it stay
abbrev pub copied_over : List ℕ → List ℕ → List ℕ
copied_over copied slice = copied ++ drop (length copied) slice

-- walked moments as they are copied: 8 bytes each
abbrev pub moments_bytes : List ℕ → List ℕ
moments_bytes moments = all_bytes (λ m. bytes 8 m) moments

-- ## Values that may be missing: a mark beside the value, which is 0 where it is missing

module _ {A : Type 0} where
  abbrev pub mark_of : Option A → ℕ
  mark_of None = 0
  mark_of (Some a) = 1

abbrev pub truth : Bool → ℕ
truth true = 1
truth false = 0

abbrev pub or_zero : Option ℕ → ℕ
or_zero None = 0
or_zero (Some n) = n

abbrev pub or_zeroℤ : Option ℤ → ℤ
or_zeroℤ None = pos 0
or_zeroℤ (Some z) = z

abbrev pub name_or : Option Name → Name
name_or None = []
name_or (Some n) = n

-- ## What a call leaves in what its caller lends

module _ {A : Type 0} where
  -- what is copied has room in the slice; tested last
  abbrev pub roomy : ℕ → (A → List ℕ) → Answer A → Answer A
  roomy room copied (refused cause) = refused cause
  roomy room copied (answers a) = cond (too_short room (copied a)) (refused NoSpace) (answers a)

  -- where it was taken, what it answers; on a refusal what was there stays
  abbrev pub leaves : {B : Type 0} → Answer A → (A → B) → B → B
  leaves (refused cause) new old = old
  leaves (answers a) new old = new a

  -- bytes copied to the front of a slice
  abbrev pub leaves_copy : Answer A → (A → List ℕ) → List ℕ → List ℕ
  leaves_copy a copied slice = leaves a (λ x. copied_over (copied x) slice) slice

-- ## Whether a call stores the record, by its effects: what is stored is the record of the lists that it leaves

unfoldable pub stores : List Effect → Bool
stores [] = false
stores (store_record ∷ es) = true
stores (report a ∷ es) = stores es
stores (emit e ∷ es) = stores es
stores (wake_timer ∷ es) = stores es
stores (wake_client ∷ es) = stores es
stores (remove_record ∷ es) = stores es
stores (store_moment m ∷ es) = stores es
stores (remove_moment ∷ es) = stores es
stores (store_source t ∷ es) = stores es
stores (remove_source ∷ es) = stores es

-- ## A history

-- a call with the length of the output slice that its caller lends
pub record SizedCall : Type 0 where
  pub call : Call
  pub room : ℕ

-- the record that a call stores and so copies, if it stores one
unfoldable pub stored_by : Rules → Lists → Call → Option (List ℕ)
stored_by r l (SetTimeZone b) = if_accepted (verdict r (SetTimeZone b)) (Some (record_bytes (after r l (SetTimeZone b)))) None
stored_by r l (SetDSTOffset b) = if_accepted (verdict r (SetDSTOffset b)) (Some (record_bytes (after r l (SetDSTOffset b)))) None
stored_by r l (Load stored) = None
stored_by r l FactoryReset = None

-- nothing to copy always has room
abbrev pub lacks_room : ℕ → Option (List ℕ) → Bool
lacks_room room None = false
lacks_room room (Some copied) = too_short room copied

-- NoSpace is due; it is tested last, so only where the call would be taken
unfoldable pub no_space : Rules → Lists → SizedCall → Bool
no_space r l a = lacks_room a.room (stored_by r l a.call)

-- a call for which NoSpace is due changes nothing
unfoldable pub after_sized : Rules → Lists → SizedCall → Lists
after_sized r l a = cond (no_space r l a) l (after r l a.call)

abbrev pub lists_after_sized : Rules → List SizedCall → Lists
lists_after_sized r calls = run (after_sized r) empty calls

-- and of a store
unfoldable pub store_after_sized : Store → SizedCall → Store
store_after_sized s a = cond (no_space s.rules s.lists a) s (store_after s a.call)

abbrev pub store_from_sized : Store → List SizedCall → Store
store_from_sized s calls = run store_after_sized s calls
