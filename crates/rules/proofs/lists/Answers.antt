-- `rules::lists` meets its contract.
use Rattle.std.proofs.Common.{refl, sym, ◌∙◌}
use Rattle.record.specs.Fronts.{zone_at, window_at, next_zone, next_window}
use Rattle.rules.specs.Numbers.{zone_passes}
use Rattle.rules.proofs.Shown.{window_keeps}
use Rattle.rules.proofs.Whole.{bytes_of, taken, both_tested}
use Rattle.rules.proofs.lists.Goals as goal

pub returns : goal.returns
returns c =
    let a = c.args in
    let new = c.new-reader.ensures in
    let first = c.in_ok-zones.ensures in
    let second = c.in_ok-windows.ensures in
    let src = first.same ∙ new.0 in
    let z = taken zone_at next_zone zone_passes a.zone_limit (bytes_of new.0) new.1 first.found first.moved in
    let w = taken window_at next_window window_keeps a.window_limit (bytes_of src) refl second.found second.moved in
    rw (c.then_some.ensures, c.and.ensures) (sym (both_tested a.zone_limit a.window_limit a.s.now z w (rw (bytes_of (second.same ∙ src)) at c.ended.ensures)))
