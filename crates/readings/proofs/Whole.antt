-- The table that is read is a whole one, and so is every name that is shown of it.
use Rattle.std.proofs.Common.{◌≡◌, ℕ, ◌+◌, ◌≤◌, List, length, take, drop, length-take, length-drop, Some, IfSome, subst, arith}
use Rattle.model.specs.Answers.{answers}
use Rattle.model.proofs.Facts.{by_test}
use Rattle.table.specs.Layout.{table_size}
use Rattle.image.specs.Layout.{is_image, table_in}
use Rattle.image.specs.Parts.{has_lists}
use Rattle.image.proofs.Alone.{table_long}
use Rattle.lookups.specs.declared.ZoneShown.{ZoneShown}
use Rattle.lookups.specs.Laws.{EndsInside}
use Rattle.lookups.specs.Shown.{zone_listed_in, shown_by, active_index}
use Rattle.lookups.proofs.Names.{name_in_place}
use Rattle.readings.specs.There.{table_read}

pub table_whole : (s t : List ℕ) → table_read s ≡ answers t → table_size ≤ length t
unfolding table_read
table_whole s t e =
    by_test (is_image s)
    (λ i. by_test (has_lists s) (λ m. let k = rw (i, m) at e in let same : t ≡ table_in s = cc in rw same (omega (arith, table_long s i)))
    (λ m. let k = rw (i, m) at e in let z : ⊥ = cc in absurd z))
    (λ i. let k = rw i at e in let z : ⊥ = cc in absurd z)

-- a name that ends inside has as many bytes as it says
pub whole_name : (n at : ℕ) (t : List ℕ) → at + n ≤ table_size → table_size ≤ length t → length (take n (drop at t)) ≡ n
whole_name n at t h k = omega (arith, length-take n (drop at t), length-drop at t)

pub listed_inside : (t : List ℕ) (i : ℕ) (z : ZoneShown) → zone_listed_in t i ≡ Some z → EndsInside z
listed_inside t i z e = subst (λ o. IfSome o EndsInside) e ((name_in_place t).1 i)

pub active_inside : (t : List ℕ) (now : ℕ) (z : ZoneShown) → z ≡ shown_by t (active_index t now) → EndsInside z
active_inside t now z e = rw e ((name_in_place t).0 now)
