-- The calls of a history, one after the other.
use Rattle.std.proofs.Common.{Option, None, Some, is_some, true, false, cond, List, [], ◌∷◌, ◌≡◌, refl, sym, ap, ◌∙◌, ℕ, zero, suc, ◌+◌, ◌≤◌, ◌<◌, arith, ltb, ltb-true, leb, leb-true, length, take, drop, length-drop, drop-drop, ne_eqb, Bool, ◌==◌}
use Rattle.model.specs.Basics.{run}
use Rattle.model.specs.Bytes.{Front, then, take_bytes, number}
use Rattle.model.specs.History.{Call}
use Rattle.model.proofs.Facts.{by_test}
use Rattle.history.specs.Calls.{read_sized, read_argument, call_with, read_call, followed, and_on, read_calls_by, read_calls}
use Rattle.history.specs.Shown.{call_of}
use Rattle.history.specs.Laws.{There, CallThere, Parts, CallParts, CallsGoOn, CallsStop, First, FirstCall, Begins, CallsBegin, NotReadable, NoCalls, Enough, History, IsHistory, Fold, FoldLaws}

-- two answers with a call are the same call and the same bytes after it
same_parts : {c d : Call} {s t : List ℕ} → ◌≡◌ {A = Front Call} (Some (c, s)) (Some (d, t)) → (c ≡ d) × (s ≡ t)
same_parts {c} {d} {s} {t} e =
    let q : (c, s) ≡ (d, t) = cc in
    (ap (λ (p : Call × List ℕ). p.0) q, ap (λ (p : Call × List ℕ). p.1) q)

-- ## The call that bytes begin with

module _ (k : ℕ) (t : List ℕ) (c : Call) (rest : List ℕ) where
  parts_bare : k ≤ 4 → read_call (k ∷ t) ≡ Some (c, rest) → ◌≡◌ {A = Front Call} (Some (call_with k [], t)) (Some (c, rest)) → Parts (k ∷ t) c rest
  parts_bare h read e =
      let p = same_parts e in
      record {
        there = record { k = k; from = 1; len = 0; size = 1; call = sym p.0; kind = h; argument = omega arith; onward = omega arith; within = omega arith; follows = sym p.1; read = read };
        ends = refl;
        bare = λ b. refl;
      }

  parts_sized : k ≤ 2 → read_call (k ∷ t) ≡ Some (c, rest) → then (read_sized t) (λ b s₂. Some (call_with k b, s₂)) ≡ Some (c, rest) → Parts (k ∷ t) c rest
  unfolding read_sized take_bytes
  parts_sized h read e =
      by_test (leb 4 (length t))
      (λ f. by_test (leb (number (take 4 t)) (length (drop 4 t)))
      (λ g.
      let n = number (take 4 t) in
      let p = same_parts (rw (f, g) at e) in
      let l : 5 + n ≤ length (k ∷ t) = omega (arith, leb-true _ _ f, leb-true _ _ g, length-drop 4 t) in
      record {
        there = record { k = k; from = 5; len = n; size = 5 + n; call = sym p.0; kind = omega arith; argument = l; onward = omega arith; within = l; follows = sym p.1 ∙ drop-drop n 5 (k ∷ t); read = read };
        ends = refl;
        bare = λ b. absurd (omega arith);
      })
      (λ g. let q = rw (f, g) at e in cc))
      (λ f. let q = rw f at e in cc)

pub call_parts : CallParts
unfolding read_call read_argument
call_parts [] c rest e = cc
call_parts (k ∷ t) c rest e =
    by_test (ltb k 3)
    (λ f. let h = ltb-true k 3 f in parts_sized k t c rest (omega arith) e (rw f at e))
    (λ f. by_test (ltb k 5)
    (λ g. let h = ltb-true k 5 g in parts_bare k t c rest (omega arith) e (rw (f, g) at e))
    (λ g. let q = rw (f, g) at e in cc))

pub call_there : CallThere
call_there s c rest e = (call_parts s c rest e).there

-- what follows a call is shorter
pub shorter : (s : List ℕ) (c : Call) (rest : List ℕ) → read_call s ≡ Some (c, rest) → length rest < length s
shorter s c rest e = let t = call_there s c rest e in omega (arith, t.onward, t.within, ap length t.follows, length-drop t.size s)

-- ## One call, then the others

-- one call, and what follows it read in two ways
and_on_same : (f : Front Call) (g h : List ℕ → Option (List Call)) → ((c : Call) (rest : List ℕ) → f ≡ Some (c, rest) → g rest ≡ h rest) → and_on f g ≡ and_on f h
and_on_same None g h e = refl
and_on_same (Some (c, rest)) g h e = ap (followed c) (e c rest refl)

-- any two fuels that are enough read the same calls
refuelled : (m n : ℕ) (s : List ℕ) → length s ≤ m → length s ≤ n → read_calls_by m s ≡ read_calls_by n s
unfolding read_calls_by
refuelled zero zero s h k = refl
refuelled zero (suc n) [] h k = refl
refuelled (suc m) zero [] h k = refl
refuelled (suc m) (suc n) [] h k = refl
refuelled zero (suc n) (b ∷ s) h k = absurd (omega arith)
refuelled (suc m) zero (b ∷ s) h k = absurd (omega arith)
refuelled (suc m) (suc n) (b ∷ s) h k =
    and_on_same (read_call (b ∷ s)) (λ s₁. read_calls_by m s₁) (λ s₁. read_calls_by n s₁)
    (λ c rest e. let l = shorter (b ∷ s) c rest e in refuelled m n rest (omega arith) (omega arith))

pub calls_go_on : CallsGoOn
unfolding read_calls read_calls_by
calls_go_on [] c rest e = let l = shorter [] c rest e in absurd (omega arith)
calls_go_on (b ∷ s) c rest e =
    let l = shorter (b ∷ s) c rest e in
    ap (λ (f : Front Call). and_on f (λ s₁. read_calls_by (length s) s₁)) e ∙ ap (followed c) (refuelled (length s) (length rest) rest (omega arith) (omega arith))

pub calls_stop : CallsStop
unfolding read_calls read_calls_by
calls_stop [] e = refl
calls_stop (b ∷ s) e = ap (λ (f : Front Call). and_on f (λ s₁. read_calls_by (length s) s₁)) e ∙ sym (rw (ne_eqb (length (b ∷ s)) 0 (omega arith)))

-- whether s is a history: what follows its first call decides, and where no call stands, that nothing is left
pub history_on : (s : List ℕ) (c : Call) (rest : List ℕ) → read_call s ≡ Some (c, rest) → is_some (read_calls s) ≡ is_some (read_calls rest)
history_on s c rest e = ap is_some (calls_go_on s c rest e) ∙ same (read_calls rest)
  where
    same : (o : Option (List Call)) → is_some (followed c o) ≡ is_some o
    same None = refl
    same (Some cs) = refl

pub history_stops : (s : List ℕ) → read_call s ≡ None → is_some (read_calls s) ≡ (length s == 0)
history_stops s e = ap is_some (calls_stop s e) ∙ same (length s == 0)
  where
    same : (b : Bool) → is_some (cond {A = Option (List Call)} b (Some []) None) ≡ b
    same true = refl
    same false = refl

pub first_call : FirstCall
first_call s c cs e = go (read_call s) refl
  where
    none : (b : Bool) → cond b (Some []) None ≡ Some (c ∷ cs) → First s c cs
    none true q = cc
    none false q = cc

    some : (d : Call) (rest : List ℕ) → There s d rest → (o : Option (List Call)) → read_calls rest ≡ o → followed d o ≡ Some (c ∷ cs) → First s c cs
    some d rest t None r q = cc
    some d rest t (Some others) r q =
        let p : d ≡ c = cc in
        let o : others ≡ cs = cc in
        record { rest = rest; others = r ∙ ap Some o; there = rw (← p) t }

    go : (f : Front Call) → read_call s ≡ f → First s c cs
    go None q = none _ (sym (calls_stop s q) ∙ e)
    go (Some (d, rest)) q = some d rest (call_there s d rest q) (read_calls rest) refl (sym (calls_go_on s d rest q) ∙ e)

-- the calls that follow a call, read in two ways
and_on_some : (f : Front Call) (g h : List ℕ → Option (List Call)) (cs : List Call) → ((c : Call) (rest : List ℕ) (others : List Call) → f ≡ Some (c, rest) → g rest ≡ Some others → h rest ≡ Some others)
    → and_on f g ≡ Some cs → and_on f h ≡ Some cs
and_on_some None g h cs e q = cc
and_on_some (Some (c, rest)) g h cs e q = go (g rest) refl q
  where
    go : (o : Option (List Call)) → g rest ≡ o → followed c o ≡ Some cs → followed c (h rest) ≡ Some cs
    go None r k = cc
    go (Some others) r k = ap (followed c) (e c rest others refl r) ∙ k

more_fuel : (n m : ℕ) (s : List ℕ) (cs : List Call) → length s ≤ m → read_calls_by n s ≡ Some cs → read_calls_by m s ≡ Some cs
unfolding read_calls_by
more_fuel zero zero s cs h q = q
more_fuel zero (suc m) [] cs h q = q
more_fuel (suc n) zero [] cs h q = q
more_fuel (suc n) (suc m) [] cs h q = q
more_fuel zero (suc m) (b ∷ s) cs h q = cc
more_fuel (suc n) zero (b ∷ s) cs h q = absurd (omega arith)
more_fuel (suc n) (suc m) (b ∷ s) cs h q =
    and_on_some (read_call (b ∷ s)) (λ s₁. read_calls_by n s₁) (λ s₁. read_calls_by m s₁) cs
    (λ c rest others e r. let l = shorter (b ∷ s) c rest e in more_fuel n m rest others (omega arith) r) q

pub enough : Enough
unfolding read_calls
enough s n cs e = more_fuel n (length s) s cs (omega arith) e

pub is_history_lem : IsHistory
is_history_lem s e = go (read_calls s) refl e
  where
    go : (o : Option (List Call)) → read_calls s ≡ o → is_some o ≡ true → History s
    go None r q = cc
    go (Some cs) r q = record { calls = cs; read = r }

-- ## At any place, with any fuel

-- bytes that are there have a call
some_call : (l : List ℕ) → 0 < length l → read_calls l ≡ Some [] → ⊥
unfolding read_calls read_calls_by
some_call [] h q = absurd (omega arith)
some_call (b ∷ l) h q = go (read_call (b ∷ l)) q
  where
    before : (c : Call) (o : Option (List Call)) → followed c o ≡ Some [] → ⊥
    before c None r = cc
    before c (Some cs) r = cc

    go : (f : Front Call) → and_on f (λ s₁. read_calls_by (length l) s₁) ≡ Some [] → ⊥
    go None r = cc
    go (Some (c, rest)) r = before c (read_calls_by (length l) rest) r

pub calls_begin : CallsBegin
unfolding read_calls
calls_begin s at n cs h e = go cs (enough (drop at s) n cs e)
  where
    go : (cs : List Call) → read_calls (drop at s) ≡ Some cs → Begins s at cs
    go [] q = absurd (some_call (drop at s) (omega (arith, length-drop at s)) q)
    go (c ∷ others) q =
        let f = first_call (drop at s) c others q in
        let p = call_parts (drop at s) c f.rest f.there.read in
        let t = p.there in
        let e₁ : c ≡ call_of s t.k (at + t.from) t.len = t.call ∙ ap (λ (b : List ℕ). call_with t.k (take t.len b)) (drop-drop t.from at s) in
        let e₂ : f.rest ≡ drop (at + t.size) s = t.follows ∙ drop-drop t.size at s in
        record {
          k = t.k;
          from = at + t.from;
          len = t.len;
          next = at + t.size;
          others = others;
          fuel = length f.rest;
          read = rw (← e₁, ← e₂) t.read;
          calls = ap (λ (x : Call). x ∷ others) e₁;
          rest = ap (λ (b : List ℕ). read_calls_by (length f.rest) b) (sym e₂) ∙ f.others;
          kind = t.kind;
          argument = omega (arith, t.argument, length-drop at s);
          ends = omega (arith, p.ends);
          bare = p.bare;
          onward = omega (arith, t.onward);
          within = omega (arith, t.within, length-drop at s);
        }

pub no_call : NotReadable
no_call s at n h e = go (read_calls_by n (drop at s)) refl
  where
    stops : read_calls (drop at s) ≡ None
    stops = calls_stop (drop at s) e ∙ rw (ne_eqb (length (drop at s)) 0 (omega (arith, length-drop at s)))

    go : (o : Option (List Call)) → read_calls_by n (drop at s) ≡ o → o ≡ None
    go None q = refl
    go (Some cs) q = sym (enough (drop at s) n cs q) ∙ stops

pub no_calls : NoCalls
unfolding read_calls read_calls_by
no_calls s at n cs h e = over (drop at s) (length-drop at s ∙ omega arith) (enough (drop at s) n cs e)
  where
    over : (l : List ℕ) → length l ≡ 0 → read_calls l ≡ Some cs → cs ≡ []
    over [] k q = cc
    over (b ∷ l) k q = absurd (omega arith)

-- ## A step for each call

module _ {S : Type 0} (step : S → Call → S) (start : S) (s : List ℕ) where
  fold_begins : is_some (read_calls s) ≡ true → Fold step start s s start
  fold_begins e =
      let h = is_history_lem s e in
      record { calls = h.calls; read = h.read; at = 0; within = omega arith; part = refl; left = h.calls; others = h.read; same = refl }

  module _ (rest : List ℕ) (state : S) (f : Fold step start s rest state) where
    fold_stops : read_call rest ≡ None → run step start f.calls ≡ state
    unfolding run
    fold_stops e = go (length rest == 0) f.left (sym (calls_stop rest e) ∙ f.others) f.same
      where
        go : (b : Bool) (cs : List Call) → cond b (Some []) None ≡ Some cs → run step start f.calls ≡ run step state cs → run step start f.calls ≡ state
        go true [] q r = r
        go true (c ∷ cs) q r = cc
        go false cs q r = cc

    fold_never : 0 < length rest → read_call rest ≡ None → ⊥
    fold_never h e =
        let q : ◌≡◌ {A = Option (List Call)} None (Some f.left) = sym (calls_stop rest e ∙ rw (ne_eqb (length rest) 0 (omega arith))) ∙ f.others in
        cc

    fold_ends : length rest ≡ 0 → run step start f.calls ≡ state
    unfolding read_call
    fold_ends h = fold_stops (go rest h)
      where
        go : (l : List ℕ) → length l ≡ 0 → read_call l ≡ None
        go [] q = refl
        go (b ∷ l) q = absurd (omega arith)

    fold_on : (c : Call) (after : List ℕ) → read_call rest ≡ Some (c, after) → (new : S) → new ≡ step state c → Fold step start s after new
    unfolding run
    fold_on c after e new q = go (read_calls after) refl (sym (calls_go_on rest c after e) ∙ f.others)
      where
        go : (o : Option (List Call)) → read_calls after ≡ o → followed c o ≡ Some f.left → Fold step start s after new
        go None r k = cc
        go (Some others) r k =
            let t = call_there rest c after e in
            let p : f.left ≡ c ∷ others = cc in
            record {
              calls = f.calls;
              read = f.read;
              at = f.at + t.size;
              within = omega (arith, t.within, ap length f.part, length-drop f.at s, f.within);
              part = t.follows ∙ ap (drop t.size) f.part ∙ drop-drop t.size f.at s;
              left = others;
              others = r;
              same = f.same ∙ ap (run step state) p ∙ ap (λ (x : S). run step x others) (sym q);
            }

  pub fold_laws : FoldLaws step start s
  fold_laws = record { begins = fold_begins; goes_on_lem = fold_on; never = fold_never; ends = fold_ends; stops = fold_stops }
