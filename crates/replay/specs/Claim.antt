-- Demand 3 about what a run itself answered: any calls on a new list store, at any limits, from any moment, looked at at any moment.
use Rattle.std.specs.Prelude.{true, List, ◌≡◌, ℕ, suc, ◌+◌, ◌*◌, ◌-◌, ◌≤◌, take, Some}
use Rattle.model.specs.Lists.{Lists}
use Rattle.model.specs.Rules.{Rules, allowed}
use Rattle.model.specs.Lookups.{active_zone, active_window, last_active_window, active_offset, usable, next_transition}
use Rattle.model.specs.Walk.{walk, different_later}
use Rattle.model.specs.History.{Call, lists_after}
use Rattle.model.specs.Output.{moments_bytes, name_or, mark_of, truth, or_zeroℤ, or_zero}
use Rattle.model.specs.Demand3 as D
use Rattle.model.specs.Demand3.{WalkIsWhole}
use Rattle.history.specs.Calls.{read_calls}
use Rattle.replay.specs.Replays.{Lent}

-- of the limits `r`, the lists `l` that the rules make of the calls' arguments, the starting moment, the moment that is looked at, and what
-- the run answered
pub record Demand3Answered (r : Rules) (l : Lists) (start at : ℕ) (t : Lent) : Type 0 where
  -- the active zone, with its name
  pub zone : t.zone ≡ (active_zone l at).offset
  pub named : t.named ≡ mark_of (active_zone l at).name
  pub name : take t.name_used t.name ≡ name_or (active_zone l at).name
  -- the active window, and that none is active
  pub active : t.active ≡ mark_of (active_offset l at)
  pub window : t.window ≡ or_zeroℤ (active_offset l at)
  pub usable : t.usable ≡ truth (usable l at)
  -- the next transition, and that there is none
  pub has_next : t.has_next ≡ mark_of (next_transition l at)
  pub next : t.next ≡ or_zero (next_transition l at)
  -- the walk: its moments, 8 bytes each and the starting moment first
  pub moments : take (8 * suc t.steps) t.moments ≡ moments_bytes (walk l start).moments
  -- a step for each different later start or end
  pub steps : t.steps ≡ different_later l start
  -- and no more of them than the limits allow
  pub bound : t.steps ≤ r.zone_limit + 2 * r.window_limit - 1
  -- the commands accept both lists
  pub taken : D.Accepted r l
  -- at every moment the first active window is the last
  pub one : (now : ℕ) → active_window l now ≡ last_active_window l now
  -- the walk misses nothing that a reader sees
  pub whole : WalkIsWhole r l start

-- for all limits that a store can have and every history of calls, where the run had room for its answers
abbrev pub ReplayClaim : Rules → List ℕ → ℕ → ℕ → ℕ → Lent → Type 0
ReplayClaim r history start at number t =
    allowed r ≡ true → number ≡ 0 → (calls : List Call) → read_calls history ≡ Some calls → Demand3Answered r (lists_after r calls) start at t
