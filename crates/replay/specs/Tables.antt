-- What the calls of a history make of the bytes of a table, and what is looked up in it afterwards.
use Rattle.std.specs.Prelude.{List, ◌≡◌, ℕ, length, None, Some, option_map, Result, Ok, Err}
use Rattle.model.specs.declared.Refusal.{Refusal}
use Rattle.model.specs.Answers.{Answer, refused, answers}
use Rattle.model.specs.Basics.{run}
use Rattle.model.specs.Bytes.{record_most}
use Rattle.model.specs.History.{Call, SetTimeZone, SetDSTOffset, Load, FactoryReset}
use Rattle.model.specs.Output.{roomy}
use Rattle.history.specs.Calls.{read_calls}
use Rattle.table.specs.Layout.{store_in}
use Rattle.table.specs.Left.{time_zone_left, dst_offset_left, load_left, reset_left}
use Rattle.replay.specs.declared.Outcome.{Outcome}
use Rattle.replay.specs.Replays.{Replayed, answers_of, name_told, moments_told}

-- ## The calls

-- the table that a call leaves, with room for every record
unfoldable pub table_next : List ℕ → Call → List ℕ
table_next t (SetTimeZone b) = time_zone_left t b record_most
table_next t (SetDSTOffset b) = dst_offset_left t b record_most
table_next t (Load None) = t
table_next t (Load (Some b)) = load_left t b
table_next t FactoryReset = reset_left t

-- the table that calls leave
abbrev pub table_through : List ℕ → List Call → List ℕ
table_through t calls = run table_next t calls

-- the table after the calls, where the bytes are a history
abbrev pub Runs : List ℕ → List ℕ → List ℕ → Type 0
Runs t history u = (calls : List Call) → read_calls history ≡ Some calls → u ≡ table_through t calls

-- ## What is looked up

-- the moments, the name and the record need room in their slices
unfoldable pub answered : List ℕ → ℕ → ℕ → ℕ → ℕ → ℕ → Answer Replayed
answered t start at moments name out =
    roomy out (λ p. p.stored) (roomy name name_told (roomy moments moments_told (answers (answers_of (store_in t) start at))))

-- ## What is told

-- what a run answers by value
abbrev pub outcome : Replayed → Outcome
outcome p =
    record {
      steps = p.walk.steps;
      zone = p.zone.offset;
      name = option_map length p.zone.name;
      window = p.window;
      usable = p.usable;
      next = p.next;
      stored = length p.stored;
      generation = p.generation;
    }

abbrev pub by_value : Answer Replayed → Result Outcome Refusal
by_value (refused cause) = Err cause
by_value (answers p) = Ok (outcome p)
