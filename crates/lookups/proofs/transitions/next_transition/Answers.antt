-- `lookups::transitions::next_transition` meets its contract.
use Rattle.std.proofs.Common.{ℕ, ◌++◌, sym, ◌∙◌, ap}
use Rattle.model.specs.Lookups.{next_transition, zone_starts, window_bounds}
use Rattle.lookups.specs.Transitions.{soonest, moment_of}
use Rattle.lookups.proofs.Soonest.{soonest_append, soonest_smallest}
use Rattle.table.specs.Layout.{zones_in, windows_in}
use Rattle.lookups.proofs.transitions.next_transition.Goals as goal

pub returns : goal.returns
unfolding next_transition
returns c =
    let a = c.args in
    let starts = zone_starts (zones_in a.table.now) in
    let bounds = window_bounds (windows_in a.table.now) in
    c.moment_of.ensures
    ∙ ap (λ (t : ℕ). moment_of t) (c.window_transition.ensures ∙ ap (λ (b : ℕ). soonest a.utc b bounds) c.zone_transition.ensures ∙ sym (soonest_append a.utc 0 starts bounds))
    ∙ soonest_smallest a.utc (starts ++ bounds)
