-- A look over a table is the timer's look, and the name that it tells stands inside the table.
use Rattle.std.proofs.Common.{Bool, ◌≡◌, ℕ, refl, arith}
use Rattle.std.proofs.lemmas.Grind.{common_steps}
use Rattle.std.specs.Prelude.{Option, None, Some, option_map, option_to_list}
use Rattle.std.specs.Bool.{then_some}
use Rattle.model.specs.Basics.{when}
use Rattle.model.specs.Answers.{Event}
use Rattle.model.specs.Timer as T
use Rattle.lookups.proofs.Names.{name_in_place}
use Rattle.lookups.proofs.Views.{active_shown}
use Rattle.rtc.specs.declared.UtcTime.TheVariants.{Reliable, LastKnown}
use Rattle.transition_timer.specs.Meaning.{sleep_of, sleep_by, look_by}
use Rattle.transition_timer.specs.Laws.{SameLook, NameToldInPlace}

-- an event that is due, with what it carries
event_due : {A : Type 0} (f : A → Event) (b : Bool) (x : A) → option_to_list (option_map f (then_some b x)) ≡ when b (f x)
event_due f b x = grind (arith, common_steps)

same_sleep : (next : Option ℕ) (now : ℕ) → sleep_of (sleep_by next now) ≡ T.sleep_until next now
same_sleep next now = grind (arith, common_steps)

pub same_look : SameLook
unfolding look_by T.look T.events_at
same_look last None t reading = refl
same_look last (Some s) t (LastKnown moment) = refl
same_look last (Some s) t (Reliable now) = rw (← active_shown s now) (simp (event_due, same_sleep))

pub name_told_in_place : NameToldInPlace
unfolding look_by
name_told_in_place last None reading = omega arith
name_told_in_place last (Some t) (LastKnown moment) = omega arith
name_told_in_place last (Some t) (Reliable now) = let h = (name_in_place t).0 now in grind (arith, common_steps, h)
