-- A zone that is shown, and whether its name has room.
use Rattle.std.specs.Prelude.{List, ℕ, Result, Ok, Err}
use Rattle.model.specs.declared.Refusal.{Refusal}
use Rattle.model.specs.Answers.{Answer, refused, answers}
use Rattle.model.specs.Lookups as L
use Rattle.model.specs.Output.{roomy}
use Rattle.lookups.specs.declared.ZoneShown.{ZoneShown}
use Rattle.lookups.specs.Laws.{zone_now_in}
use Rattle.readings.specs.Readings.{now_name}

-- a zone that a table shows, where its name has room
abbrev pub showing : List ℕ → ZoneShown → ℕ → Answer L.ZoneNow
showing t z room = roomy room now_name (answers (zone_now_in t z))

-- what a function inside answers of a call that was taken or refused
abbrev pub taken : {A : Type 0} → Answer A → Result (Unit {0}) Refusal
taken (refused cause) = Err cause
taken (answers a) = Ok tt
