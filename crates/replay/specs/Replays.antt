-- A whole history of calls on a new list store, and what is looked up after it: what a run answers and what it leaves in what its caller lends.
use Rattle.std.specs.Prelude.{Bool, cond, List, ℕ, ℤ, length, Option, None, Some}
use Rattle.model.specs.declared.Refusal.TheVariants.{Unreadable, BadLimits}
use Rattle.model.specs.Lists.{empty}
use Rattle.model.specs.Answers.{Answer, refused, answers}
use Rattle.model.specs.Rules.{Rules, allowed}
use Rattle.model.specs.Lookups.{ZoneNow, active_zone, active_offset, usable, next_transition}
use Rattle.model.specs.Walk.{Walk, walk}
use Rattle.model.specs.History.{Call}
use Rattle.model.specs.Store.{Store, record_of, store_from}
use Rattle.model.specs.Output.{copied_over, moments_bytes, mark_of, truth, or_zero, or_zeroℤ, name_or, roomy, leaves}
use Rattle.history.specs.Calls.{read_calls}

-- ## What a run answers

-- what is looked up at a moment, the walk, the record and the generation
pub record Replayed : Type 0 where
  pub zone : ZoneNow
  pub window : Option ℤ
  pub usable : Bool
  pub next : Option ℕ
  pub walk : Walk
  pub stored : List ℕ
  pub generation : ℕ

-- of the store that the calls left
abbrev pub answers_of : Store → ℕ → ℕ → Replayed
answers_of t start at =
    record {
      zone = active_zone t.lists at;
      window = active_offset t.lists at;
      usable = usable t.lists at;
      next = next_transition t.lists at;
      walk = walk t.lists start;
      stored = record_of t;
      generation = t.generation;
    }

abbrev pub new_store : Rules → Store
new_store r = record { rules = r; lists = empty; generation = 0 }

-- bytes that are not a history are unreadable
abbrev pub run : Rules → Option (List Call) → ℕ → ℕ → Answer Replayed
run r None start at = refused Unreadable
run r (Some calls) start at = answers (answers_of (store_from (new_store r) calls) start at)

abbrev pub name_told : Replayed → List ℕ
name_told p = name_or p.zone.name

abbrev pub moments_told : Replayed → List ℕ
moments_told p = moments_bytes p.walk.moments

-- limits that make no store come first; the moments, the name and the record need room in their slices, tested last
unfoldable pub replayed : Rules → List ℕ → ℕ → ℕ → ℕ → ℕ → ℕ → Answer Replayed
replayed r history start at moments name out =
    cond (allowed r)
    (roomy out (λ p. p.stored) (roomy name name_told (roomy moments moments_told (run r (read_calls history) start at))))
    (refused BadLimits)

-- ## What stands in what the caller lends

pub record Lent : Type 0 where
  pub moments : List ℕ
  pub steps : ℕ
  pub name : List ℕ
  pub zone : ℤ
  pub named : ℕ
  pub name_used : ℕ
  pub active : ℕ
  pub window : ℤ
  pub usable : ℕ
  pub has_next : ℕ
  pub next : ℕ
  pub out : List ℕ
  pub used : ℕ
  pub generation : ℕ

-- the answers, copied to the front of the slices and into the numbers
abbrev pub told : Replayed → Lent → Lent
told p l =
    record {
      moments = copied_over (moments_told p) l.moments;
      steps = p.walk.steps;
      name = copied_over (name_told p) l.name;
      zone = p.zone.offset;
      named = mark_of p.zone.name;
      name_used = length (name_told p);
      active = mark_of p.window;
      window = or_zeroℤ p.window;
      usable = truth p.usable;
      has_next = mark_of p.next;
      next = or_zero p.next;
      out = copied_over p.stored l.out;
      used = length p.stored;
      generation = p.generation;
    }

-- on a refusal all stays
abbrev pub lent_after : Answer Replayed → Lent → Lent
lent_after a l = leaves a (λ p. told p l) l
