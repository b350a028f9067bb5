-- What the answers of `Calls` mean for the calls of a history. Where it gives c, with s left before and rest after, s reads as (c, rest);
-- where it gives none, s reads as none (`GivesCall`).
use Rattle.std.specs.Prelude.{true, cond, ◌==◌, List, [], ◌∷◌, ◌≡◌, ℕ, ◌+◌, ◌≤◌, ◌<◌, length, drop, None, Some, is_some}
use Rattle.model.specs.Basics.{run}
use Rattle.model.specs.History.{Call}
use Rattle.history.specs.Calls.{read_call, followed, read_calls_by, read_calls}
use Rattle.history.specs.Shown.{call_of}

-- where the call that s begins with and its parts stand, what follows it, and that it reads as such
pub record There (s : List ℕ) (c : Call) (rest : List ℕ) : Type 0 where
  pub k : ℕ
  pub from : ℕ
  pub len : ℕ
  pub size : ℕ
  pub call : c ≡ call_of s k from len
  pub kind : k ≤ 4
  pub argument : from + len ≤ length s
  pub onward : 0 < size
  pub within : size ≤ length s
  pub follows : rest ≡ drop size s
  pub read : read_call s ≡ Some (c, rest)

-- each call that is given is one: `call_there` in proofs/Reading.antt
abbrev pub CallThere : Type 0
CallThere = (s : List ℕ) (c : Call) (rest : List ℕ) → read_call s ≡ Some (c, rest) → There s c rest

-- the same; the argument ends where the call does, and kinds 3 and 4 have none
pub record Parts (s : List ℕ) (c : Call) (rest : List ℕ) : Type 0 where
  pub there : There s c rest
  pub ends : there.from + there.len ≡ there.size
  pub bare : 2 < there.k → there.len ≡ 0

-- `call_parts` in proofs/Reading.antt
abbrev pub CallParts : Type 0
CallParts = (s : List ℕ) (c : Call) (rest : List ℕ) → read_call s ≡ Some (c, rest) → Parts s c rest

-- it comes before the calls of what follows it: `calls_go_on` in proofs/Reading.antt
abbrev pub CallsGoOn : Type 0
CallsGoOn = (s : List ℕ) (c : Call) (rest : List ℕ) → read_call s ≡ Some (c, rest) → read_calls s ≡ followed c (read_calls rest)

-- where no call stands, the end reads as no calls, and anything else is unreadable: `calls_stop` in proofs/Reading.antt
abbrev pub CallsStop : Type 0
CallsStop = (s : List ℕ) → read_call s ≡ None → read_calls s ≡ cond (length s == 0) (Some []) None

-- the first of a history's calls, and the others
pub record First (s : List ℕ) (c : Call) (cs : List Call) : Type 0 where
  pub rest : List ℕ
  pub others : read_calls rest ≡ Some cs
  pub there : There s c rest

-- `first_call` in proofs/Reading.antt
abbrev pub FirstCall : Type 0
FirstCall = (s : List ℕ) (c : Call) (cs : List Call) → read_calls s ≡ Some (c ∷ cs) → First s c cs

-- as many calls as there are bytes are never too few: `enough` in proofs/Reading.antt
abbrev pub Enough : Type 0
Enough = (s : List ℕ) (n : ℕ) (cs : List Call) → read_calls_by n s ≡ Some cs → read_calls s ≡ Some cs

-- the calls of a history
pub record History (s : List ℕ) : Type 0 where
  pub calls : List Call
  pub read : read_calls s ≡ Some calls

-- `is_history_lem` in proofs/Reading.antt
abbrev pub IsHistory : Type 0
IsHistory = (s : List ℕ) → is_some (read_calls s) ≡ true → History s

-- ## At any place, with any fuel

-- the calls `cs` from `at` on: the first of them, where its parts stand, and the others
pub record Begins (s : List ℕ) (at : ℕ) (cs : List Call) : Type 0 where
  pub k : ℕ
  pub from : ℕ
  pub len : ℕ
  pub next : ℕ
  pub others : List Call
  pub fuel : ℕ
  pub read : read_call (drop at s) ≡ Some (call_of s k from len, drop next s)
  pub calls : cs ≡ call_of s k from len ∷ others
  pub rest : read_calls_by fuel (drop next s) ≡ Some others
  pub kind : k ≤ 4
  pub argument : from + len ≤ length s
  pub ends : from + len ≡ next
  pub bare : 2 < k → len ≡ 0
  pub onward : at < next
  pub within : next ≤ length s

-- `calls_begin` in proofs/Reading.antt
abbrev pub CallsBegin : Type 0
CallsBegin = (s : List ℕ) (at n : ℕ) (cs : List Call) → at < length s → read_calls_by n (drop at s) ≡ Some cs → Begins s at cs

-- where no call stands, nothing is readable: `no_call` in proofs/Reading.antt
abbrev pub NotReadable : Type 0
NotReadable = (s : List ℕ) (at n : ℕ) → at < length s → read_call (drop at s) ≡ None → read_calls_by n (drop at s) ≡ None

-- at the end there are no calls: `no_calls` in proofs/Reading.antt
abbrev pub NoCalls : Type 0
NoCalls = (s : List ℕ) (at n : ℕ) (cs : List Call) → length s ≤ at → read_calls_by n (drop at s) ≡ Some cs → cs ≡ []

-- ## A step for each call, from the first on

module _ {S : Type 0} (step : S → Call → S) (start : S) where
  -- `s` is a history, and what is left of it, `rest`, makes of `state` what the whole makes of `start`
  pub record Fold (s rest : List ℕ) (state : S) : Type 0 where
    pub calls : List Call
    pub read : read_calls s ≡ Some calls
    pub at : ℕ
    pub within : at ≤ length s
    pub part : rest ≡ drop at s
    pub left : List Call
    pub others : read_calls rest ≡ Some left
    pub same : run step start calls ≡ run step state left

  -- `fold_laws` in proofs/Reading.antt
  pub record FoldLaws (s : List ℕ) : Type 0 where
    pub begins : is_some (read_calls s) ≡ true → Fold s s start
    pub goes_on_lem : (rest : List ℕ) (state : S) → Fold s rest state
        → (c : Call) (after : List ℕ) → read_call rest ≡ Some (c, after) → (new : S) → new ≡ step state c → Fold s after new
    -- a call stands at every place before the end
    pub never : (rest : List ℕ) (state : S) → Fold s rest state → 0 < length rest → read_call rest ≡ None → ⊥
    pub ends : (rest : List ℕ) (state : S) (f : Fold s rest state) → length rest ≡ 0 → run step start f.calls ≡ state
    -- so where no call stands, it is the end
    pub stops : (rest : List ℕ) (state : S) (f : Fold s rest state) → read_call rest ≡ None → run step start f.calls ≡ state
