-- The calls that an iterator gives, and what it has left.
use Rattle.std.specs.Prelude.{List, ℕ, ◌≡◌, take, drop, Option, None, Some}
use Rattle.std.specs.Iterator.{Count, item_count}
use Rattle.model.specs.History.{Call, SetTimeZone, SetDSTOffset, Load, FactoryReset}
use Rattle.history.specs.declared.Call as D
use Rattle.history.specs.declared.Call.TheVariants as C
use Rattle.history.specs.declared.Calls.{Calls}
use Rattle.history.specs.Calls.{call_with, read_call}

-- a call that was read, with the bytes of its argument
abbrev pub shown : D.Call → Call
shown (C.SetTimeZone b) = SetTimeZone b.now
shown (C.SetDSTOffset b) = SetDSTOffset b.now
shown (C.Load None) = Load None
shown (C.Load (Some b)) = Load (Some b.now)
shown C.FactoryReset = FactoryReset

-- the bytes that are not read yet
abbrev pub left : Calls → List ℕ
left c = c.rest.now

-- the call that they begin with was read, and what follows it is left; where no call stands, all stays
abbrev pub GivesCall : Calls → Option D.Call → Calls → Type 0
GivesCall old None new = (read_call (left old) ≡ None) × (left new ≡ left old)
GivesCall old (Some c) new = read_call (left old) ≡ Some (shown c, left new)

-- each call takes a byte or more
abbrev pub calls_at_most : Calls → Count
calls_at_most c = item_count left c

-- the call of a kind whose argument is the `len` bytes from `from` on
abbrev pub call_of : List ℕ → ℕ → ℕ → ℕ → Call
call_of s kind from len = call_with kind (take len (drop from s))
