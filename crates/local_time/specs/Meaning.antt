-- What a local time stands for. It is injective, so the contract leaves one result.
use Rattle.std.specs.Prelude.{ℕ, Option, Result, Ok, Err}
use Rattle.model.specs.declared.Refusal.{Refusal}
use Rattle.model.specs.Answers.{Answer, refused, answers}

-- null or a moment, or a refusal
abbrev pub local_time_of : Result (Option ℕ) Refusal → Answer (Option ℕ)
local_time_of (Ok moment) = answers moment
local_time_of (Err cause) = refused cause
