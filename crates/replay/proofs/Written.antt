-- The walk and the name of a zone, as they are written into slices.
use Rattle.std.proofs.Common.{List, ◌≡◌, sym, ap, ◌∙◌, ℕ, suc, ◌*◌, ◌≤◌, arith, add-one, length, take}
use Rattle.model.specs.Lookups.{active_zone}
use Rattle.model.specs.Output.{copied_over, moments_bytes}
use Rattle.model.specs.Walk as W
use Rattle.word.specs.Place.{placed}
use Rattle.word.proofs.Places.{placed_there}
use Rattle.word.proofs.Writes.{length_numbers, put_front}
use Rattle.lookups.specs.declared.Walk as O
use Rattle.lookups.specs.declared.ZoneShown.{ZoneShown}
use Rattle.lookups.specs.Laws.{zone_now_in}
use Rattle.lookups.specs.Shown.{shown_by, active_index}
use Rattle.lookups.specs.Transitions.{walk_owned}
use Rattle.lookups.proofs.Owned.{walk_by_value}
use Rattle.lookups.proofs.Views.{active_shown}
use Rattle.table.specs.Layout.{lists_in}

-- the moments walked, and how many bytes they are written as
pub walked_moments : (t : List ℕ) (start : ℕ) {w : O.Walk} {ns : List ℕ} → w ≡ walk_owned (W.walk (lists_in t) start) → ns ≡ take (suc w.steps) w.moments → ns ≡ (W.walk (lists_in t) start).moments
walked_moments t start {w} e q = q ∙ ap (λ (i : ℕ). take i w.moments) (sym (add-one w.steps)) ∙ (walk_by_value t start w e).held

pub moments_long : {ns ms : List ℕ} → ns ≡ ms → length (moments_bytes ms) ≡ 8 * length ns
moments_long {ns} e = ap (λ (l : List ℕ). length (moments_bytes l)) (sym e) ∙ length_numbers ns

-- the zone that is shown is the active one
pub zone_told : (t : List ℕ) (at : ℕ) {z : ZoneShown} → z ≡ shown_by t (active_index t at) → zone_now_in t z ≡ active_zone (lists_in t) at
zone_told t at e = ap (zone_now_in t) e ∙ active_shown t at

-- bytes put at the front of a slice that has room
pub put_over : (slice bs : List ℕ) {out : List ℕ} → out ≡ placed slice 0 bs → length bs ≤ length slice → out ≡ copied_over bs slice
put_over slice bs e h = e ∙ placed_there slice 0 bs (omega arith) ∙ put_front slice bs
