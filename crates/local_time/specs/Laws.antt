-- What holds of a local time by value; the proof stands in proofs/One.antt.
use Rattle.std.specs.Prelude.{◌≡◌, ℕ, Option, Result}
use Rattle.model.specs.declared.Refusal.{Refusal}
use Rattle.local_time.specs.Meaning.{local_time_of}

-- `one_local_time`: equal meanings are of equal local times
abbrev pub OneLocalTime : Type 0
OneLocalTime = (a b : Result (Option ℕ) Refusal) → local_time_of a ≡ local_time_of b → a ≡ b
