-- What a run answers, by its causes; and demand 3 about what it answered.
use Rattle.std.proofs.Common.{Bool, cond, Option, None, Some, Result, Ok, Err, is_some, true, false, List, ◌≡◌, refl, sym, ap, ◌∙◌, ℕ, suc, ◌*◌, ◌≤◌, ◌<◌, arith, lt-ltb, le-ltb, length, take, drop, take_at}
use Rattle.std.proofs.Math.Seq.{take-append_seam}
use Rattle.model.specs.declared.Refusal.{Refusal}
use Rattle.model.specs.declared.Refusal.TheVariants.{Unreadable, BadLimits, NoSpace}
use Rattle.model.specs.Answers.{Answer, refused, answers, number_of}
use Rattle.model.specs.History.{Call, lists_after}
use Rattle.model.specs.Lists.{Lists}
use Rattle.model.specs.Lookups as L
use Rattle.model.specs.Output.{too_short, copied_over, moments_bytes, mark_of, truth, or_zero, or_zeroℤ, name_or, roomy}
use Rattle.model.specs.Rules.{Rules, allowed}
use Rattle.model.specs.Store.{Store, new, store_from}
use Rattle.model.specs.Walk.{walk}
use Rattle.model.proofs.Demand3.{demand3}
use Rattle.model.proofs.Facts.{by_test}
use Rattle.history.specs.Calls.{read_calls}
use Rattle.table.specs.Layout.{table_size, store_in, new_table}
use Rattle.table.specs.Left.{new_said, new_left}
use Rattle.table.proofs.Made.{not_allowed, is_made, none_made, one_made}
use Rattle.replay.specs.Replays.{Replayed, answers_of, new_store, name_told, moments_told, replayed, Lent, told, lent_after}
use Rattle.replay.specs.Claim.{Demand3Answered, ReplayClaim}
use Rattle.replay.specs.Tables.{answered}
use Rattle.word.proofs.Writes.{length_numbers}

-- ## By the limits and the history

none_read : (o : Option (List Call)) → is_some o ≡ false → o ≡ None
none_read None h = refl
none_read (Some calls) h = cc

module _ (r : Rules) (history : List ℕ) (start at m n o : ℕ) where
  pub replayed_bad : allowed r ≡ false → replayed r history start at m n o ≡ refused BadLimits
  unfolding replayed
  replayed_bad a = rw a

  pub replayed_unreadable : allowed r ≡ true → is_some (read_calls history) ≡ false → replayed r history start at m n o ≡ refused Unreadable
  unfolding replayed
  replayed_unreadable a h = rw (a, none_read (read_calls history) h)

  pub replayed_run : allowed r ≡ true → (calls : List Call) → read_calls history ≡ Some calls → (t : List ℕ) → store_in t ≡ store_from (new_store r) calls
      → replayed r history start at m n o ≡ answered t start at m n o
  unfolding replayed answered
  replayed_run a calls e t q =
      rw (a, e)
      (ap (λ (s : Store). roomy o (λ p. p.stored) (roomy n name_told (roomy m moments_told (answers (answers_of s start at))))) (sym q))

-- ## By what `new` said of the limits, in a table of enough bytes

module _ (s : List ℕ) (r : Rules) (h : table_size ≤ length s) (v : Result (Unit {0}) Refusal) (e : v ≡ new_said s r) where
  pub limits_good : v ≡ (Ok tt) → allowed r ≡ true
  limits_good k =
      by_test (allowed r) (λ t. t)
      (λ t.
      let q : v ≡ Err BadLimits = e ∙ sym (none_made s r (not_allowed s r t)).0 in
      cc)

  pub limits_bad : (cause : Refusal) → v ≡ Err cause → (allowed r ≡ false) × (cause ≡ BadLimits)
  limits_bad cause k =
      by_test (allowed r)
      (λ t.
      let q : v ≡ (Ok tt) = e ∙ sym (one_made s r (new_table s r) (is_made s r h t) refl).0 in
      (cc, cc))
      (λ t.
      let q : v ≡ Err BadLimits = e ∙ sym (none_made s r (not_allowed s r t)).0 in
      (t, cc))

  pub table_made : (u : List ℕ) → allowed r ≡ true → u ≡ new_left s r → u ≡ new_table s r
  table_made u a q = q ∙ sym (one_made s r (new_table s r) (is_made s r h a) refl).1

-- ## By the room in the slices

-- what is answered only where a test fails
pub room_none : (short : Bool) (n : ℕ) → cond {A = Option ℕ} short None (Some n) ≡ None → short ≡ true
room_none true n e = refl
room_none false n e = cc

pub room_some : (short : Bool) (n k : ℕ) → cond short None (Some n) ≡ Some k → (short ≡ false) × (k ≡ n)
room_some true n k e = (cc, cc)
room_some false n k e = (refl, cc)

module _ (t : List ℕ) (start at m n o : ℕ) where
  abbrev p : Replayed
  p = answers_of (store_in t) start at

  pub no_moments_room : m < length (moments_told p) → answered t start at m n o ≡ refused NoSpace
  unfolding answered
  no_moments_room h = rw (lt-ltb m (length (moments_told p)) h)

  pub no_name_room : n < length (name_told p) → answered t start at m n o ≡ refused NoSpace
  unfolding answered
  no_name_room h = by_test (too_short m (moments_told p)) (λ e. rw e) (λ e. rw (e, lt-ltb n (length (name_told p)) h))

  pub no_record_room : too_short o p.stored ≡ true → answered t start at m n o ≡ refused NoSpace
  unfolding answered
  no_record_room h = by_test (too_short m (moments_told p)) (λ e. rw e) (λ e. by_test (too_short n (name_told p)) (λ f. rw (e, f)) (λ f. rw (e, f, h)))

  pub all_told : length (moments_told p) ≤ m → length (name_told p) ≤ n → too_short o p.stored ≡ false → answered t start at m n o ≡ answers p
  unfolding answered
  all_told h k e = rw (le-ltb m (length (moments_told p)) h, le-ltb n (length (name_told p)) k, e)

-- ## Demand 3 about the answers

-- a test of room that turned nothing down
room_passed : (room : ℕ) (copied : Replayed → List ℕ) (a : Answer Replayed) → number_of (roomy room copied a) ≡ 0 → roomy room copied a ≡ a
room_passed room copied (refused cause) h = refl
room_passed room copied (answers p) h =
    by_test (too_short room (copied p))
    (λ e. let z : ◌≡◌ {A = ℕ} 9 0 = rw e at h in absurd (omega arith))
    (λ e. rw e)

all_passed : (p : Replayed) (m n o : ℕ) → number_of (roomy o (λ q. q.stored) (roomy n name_told (roomy m moments_told (answers p)))) ≡ 0
    → roomy o (λ q. q.stored) (roomy n name_told (roomy m moments_told (answers p))) ≡ answers p
all_passed p m n o z =
    let a = roomy m moments_told (answers p) in
    let b = roomy n name_told a in
    let e : roomy o (λ q. q.stored) b ≡ b = room_passed o (λ q. q.stored) b z in
    let f : b ≡ a = room_passed n name_told a (ap number_of (sym e) ∙ z) in
    e ∙ f ∙ room_passed m moments_told (answers p) (ap number_of (sym (e ∙ f)) ∙ z)

module _ (r : Rules) (history : List ℕ) (start at m n o : ℕ) where
  -- where all had room, what the calls left is told
  is_told : allowed r ≡ true → number_of (replayed r history start at m n o) ≡ 0 → (calls : List Call) → read_calls history ≡ Some calls
      → replayed r history start at m n o ≡ answers (answers_of (store_from (new_store r) calls) start at)
  unfolding replayed
  is_told a z calls e = rw (a, e) (all_passed (answers_of (store_from (new_store r) calls) start at) m n o (rw (a, e) at z))

told_moments : (x l : Lists) (start : ℕ) (slice : List ℕ) → x ≡ l → length (walk l start).moments ≡ suc (walk l start).steps
    → take (8 * suc (walk x start).steps) (copied_over (moments_bytes (walk x start).moments) slice) ≡ moments_bytes (walk l start).moments
told_moments x l start slice e k =
    let b = moments_bytes (walk l start).moments in
    rw e (take_at b (drop (length b) slice) (8 * suc (walk l start).steps) (length_numbers (walk l start).moments ∙ ap (λ (i : ℕ). 8 * i) k))

new_made : (r : Rules) → allowed r ≡ true → new r ≡ answers (new_store r)
unfolding new
new_made r a = rw a

demand3_told : (r : Rules) (calls : List Call) (start at : ℕ) (t : Lent) → allowed r ≡ true
    → Demand3Answered r (lists_after r calls) start at (told (answers_of (store_from (new_store r) calls) start at) t)
demand3_told r calls start at t a =
    let s = store_from (new_store r) calls in
    let l = lists_after r calls in
    let k = demand3 r (new_store r) (new_made r a) calls start in
    let w = k.whole in
    let e : s.lists ≡ l = k.lists in
    record {
      zone = ap (λ (x : Lists). (L.active_zone x at).offset) e;
      named = ap (λ (x : Lists). mark_of (L.active_zone x at).name) e;
      name =
          take-append_seam (name_or (L.active_zone s.lists at).name) (drop (length (name_or (L.active_zone s.lists at).name)) t.name)
          ∙ ap (λ (x : Lists). name_or (L.active_zone x at).name) e;
      active = ap (λ (x : Lists). mark_of (L.active_offset x at)) e;
      window = ap (λ (x : Lists). or_zeroℤ (L.active_offset x at)) e;
      usable = ap (λ (x : Lists). truth (L.usable x at)) e;
      has_next = ap (λ (x : Lists). mark_of (L.next_transition x at)) e;
      next = ap (λ (x : Lists). or_zero (L.next_transition x at)) e;
      moments = told_moments s.lists l start t.moments e w.counted;
      steps = ap (λ (x : Lists). (walk x start).steps) e ∙ w.steps;
      bound = omega (arith, ap (λ (x : Lists). (walk x start).steps) e, w.few);
      taken = k.taken;
      one = k.one;
      whole = w;
    }

pub claims : (r : Rules) (history : List ℕ) (start at m n o : ℕ) (t u : Lent) (number : ℕ) → number ≡ number_of (replayed r history start at m n o)
    → u ≡ lent_after (replayed r history start at m n o) t → ReplayClaim r history start at number u
claims r history start at m n o t u number e q a z calls read =
    let k = is_told r history start at m n o a (sym e ∙ z) calls read in
    let v : u ≡ told (answers_of (store_from (new_store r) calls) start at) t = q ∙ ap (λ (x : Answer Replayed). lent_after x t) k in
    rw v (demand3_told r calls start at t a)
