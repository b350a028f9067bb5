-- What holds of the timer's looks.
use Rattle.std.proofs.Common.{Option, None, Some, is_some, Bool, true, false, not, ◌&&◌, cond, List, [], ◌∷◌, ◌++◌, ◌≡◌, refl, sym, ap, ◌∙◌, ℕ, suc, ◌+◌, ◌-◌, ◌≤◌, ◌<◌, le_refl, arith, leb-true, leb-false, le-leb, leb, ℤ, pos, negsuc}
use Rattle.std.proofs.Math.Bool.{beq}
use Rattle.std.specs.Int.Signed.{le_z}
use Rattle.model.specs.Basics.{when, All, smallest, held_at_top}
use Rattle.model.specs.Lists.{Name, Lists}
use Rattle.model.specs.Answers.{Event, DSTTableEmpty, DSTStatus, TimeZoneStatus}
use Rattle.model.specs.Lookups.{active_zone, active_offset, boundaries, later, next_transition}
use Rattle.model.specs.Clock.{Reading, reliable, last_known}
use Rattle.model.specs.Timer.{Timer, Seen, seen_at, zone_due, active_due, empty_due, events_at, at_most, sleep_until, look}
use Rattle.model.specs.Looks.{SilentAgain, Instant, events_over, empties, usables, usable_then, last_usable, falls, OnceForEachFall, SleepsFor, SleepsWhereNext, EndsPast, EndsMarginPast, FarFrom, SkipsNone}
use Rattle.model.proofs.Facts.{by_test, All-map, first_after, none_after}
use Rattle.model.proofs.Moments.{SameSide, past_both, before_both, same_answers}

-- ## A second look with nothing changed

le_itself : (z : ℤ) → le_z z z ≡ true
le_itself (pos n) = le-leb n n (le_refl n)
le_itself (negsuc n) = le-leb n n (le_refl n)

no_zone : (s : Seen) → zone_due (Some s) s ≡ false
no_zone s = rw (le_itself s.offset)

no_change : (b : Bool) → not (beq b b) ≡ false
no_change true = refl
no_change false = refl

no_fall : (b : Bool) → b && not b ≡ false
no_fall true = refl
no_fall false = refl

no_events : (l : Lists) (now : ℕ) → events_at l now (Some (seen_at l now)) ≡ []
unfolding events_at
no_events l now =
    let s = seen_at l now in
    rw (no_zone s, no_change s.active, no_fall s.usable)

pub silent_again : SilentAgain
unfolding look
silent_again timer None reading = refl
silent_again timer (Some l) (last_known moment) = refl
silent_again timer (Some l) (reliable now) = rw (no_events l now)

-- ## DSTTableEmpty, once for each fall

empties-++ : (es fs : List Event) → empties (es ++ fs) ≡ empties es + empties fs
unfolding empties
empties-++ [] fs = omega arith
empties-++ (e ∷ es) fs = let ih = empties-++ es fs in omega arith

-- of the events of a look only the last can be DSTTableEmpty
only_last : (a b c : Bool) (offset : ℤ) (name : Option Name) (active : Bool)
    → empties (when a (TimeZoneStatus offset name) ++ (when b (DSTStatus active) ++ when c DSTTableEmpty)) ≡ cond c 1 0
unfolding empties
only_last true true true offset name active = refl
only_last true true false offset name active = refl
only_last true false true offset name active = refl
only_last true false false offset name active = refl
only_last false true true offset name active = refl
only_last false true false offset name active = refl
only_last false false true offset name active = refl
only_last false false false offset name active = refl

one_look : (timer : Timer) (l : Lists) (now : ℕ) → empties (events_at l now timer) ≡ cond (empty_due timer (seen_at l now)) 1 0
unfolding events_at
one_look timer l now =
    let new = seen_at l now in
    only_last (zone_due timer new) (active_due timer new) (empty_due timer new) (active_zone l now).offset (active_zone l now).name (is_some (active_offset l now))

counted : (b : Bool) (n : ℕ) → cond b 1 0 + n ≡ cond b (suc n) n
counted true n = omega arith
counted false n = omega arith

-- a look counts the step from what the timer last saw to what it sees
first_fall : (timer : Timer) (new : Seen) (bs : List Bool) → cond (empty_due timer new) 1 0 + falls (new.usable ∷ bs) ≡ falls (last_usable timer (new.usable ∷ bs))
unfolding falls
first_fall None new bs = counted false (falls (new.usable ∷ bs))
first_fall (Some old) new bs = counted (old.usable && not new.usable) (falls (new.usable ∷ bs))

-- the step of a run, by the instant's reading
one_more : (timer : Timer) (l : Lists) (r : Reading) (is : List Instant) → ((t : Timer) → empties (events_over t is) ≡ falls (last_usable t (usables is)))
    → empties ((look timer (Some l) r).events ++ events_over (look timer (Some l) r).timer is) ≡ falls (last_usable timer (usable_then l r (usables is)))
unfolding look
one_more timer l (last_known moment) is ih = ih timer
one_more timer l (reliable now) is ih =
    let after = ih (Some (seen_at l now)) in
    empties-++ (events_at l now timer) (events_over (Some (seen_at l now)) is)
    ∙ rw (one_look timer l now, after) (first_fall timer (seen_at l now) (usables is))

pub once_for_each_fall : OnceForEachFall
unfolding events_over usables empties falls
once_for_each_fall None [] = refl
once_for_each_fall (Some seen) [] = refl
once_for_each_fall timer (i ∷ is) = one_more timer i.lists i.reading is (λ t. once_for_each_fall t is)

-- ## Sleeps

pub sleeps_where_next : SleepsWhereNext
unfolding look
sleeps_where_next timer l now next e m =
    record { transition = e; moment = m; sleep = ap (λ (o : Option ℕ). sleep_until o now) e }

-- the sleep of a look is the one that the transition asks for
asked : (timer : Timer) (l : Lists) (now next s : ℕ) → SleepsFor timer l now next s → held_at_top (next - now + 100000) ≡ s
unfolding look
asked timer l now next s f =
    let e : sleep_until (Some next) now ≡ at_most s = ap (λ (o : Option ℕ). sleep_until o now) (sym f.transition) ∙ f.sleep in
    cc

pub ends_past : EndsPast
ends_past timer l now next s f =
    let e = asked timer l now next s f in
    let m = f.moment in
    omega arith

after_now : (l : Lists) (now next : ℕ) → next_transition l now ≡ Some next → now < next
unfolding next_transition
after_now l now next e = (first_after now next (boundaries l) e).after

pub ends_margin_past : EndsMarginPast
ends_margin_past timer l now next s f held =
    let e = asked timer l now next s f in
    let a = after_now l now next f.transition in
    omega arith

-- where the end lies at `next` or past it and before the transition after it, no boundary lies between
alike : (t next : ℕ) (o : Option ℕ) (bs : List ℕ) → smallest (later next bs) ≡ o → next ≤ t → t ≤ next + 100000 → FarFrom next o → All (SameSide t next) bs
alike t next None bs e p q far =
    All-map (λ b h. past_both t next b (omega arith) h) bs (none_after next bs e)
alike t next (Some m) bs e p q far =
    All-map
    (λ b h. by_test (leb b next)
    (λ y. let k = leb-true b next y in past_both t next b (omega arith) k)
    (λ n. let k = leb-false b next n in let j = h k in before_both t next b (omega arith) k))
    bs (first_after next m bs e).least

no_boundary : (l : Lists) (t next : ℕ) → next ≤ t → t ≤ next + 100000 → FarFrom next (next_transition l next) → All (SameSide t next) (boundaries l)
unfolding next_transition
no_boundary l t next p q far = alike t next (smallest (later next (boundaries l))) (boundaries l) refl p q far

pub skips_none : SkipsNone
skips_none timer l now next s f far =
    let e = asked timer l now next s f in
    let a = after_now l now next f.transition in
    let p = ends_past timer l now next s f in
    same_answers (now + s) next l (no_boundary l (now + s) next p (omega arith) far)
