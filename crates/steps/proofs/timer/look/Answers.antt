-- `steps::timer::look` meets its contract.
use Rattle.std.proofs.Common.{◌≡◌, false, length, arith, unwrap_or}
use Rattle.std.proofs.lemmas.Grind.{common_steps}
use Rattle.model.specs.Bytes.{number}
use Rattle.model.specs.Codes.{returned}
use Rattle.model.specs.Output.{too_short, name_or}
use Rattle.lookups.specs.Shown.{blank_shown}
use Rattle.lookups.specs.Laws.{shown_name}
use Rattle.image.specs.Layout.{table_in}
use Rattle.steps.proofs.Looks.{look_is, zone_is, active_is}
use Rattle.steps.proofs.timer.look.Goals as goal

pub returns-in_default : goal.returns-in_default
unfolding returned number
returns-in_default c =
    let a = c.args in
    let l = c.look-shown.result in
    let z = c.unwrap_or_default-zone.result in
    let zone : z ≡ unwrap_or l.zone_status blank_shown = grind (arith, common_steps) in
    let e = look_is a.image.now c.seen_in-last.result c.utc_time-reading.result a.tick (length a.name.now) l z (cc) (cc) (cc) (grind (arith, common_steps)) zone in
    rw e (grind (arith, common_steps))

pub returns : goal.returns
returns c =
    let a = c.args in
    let t = table_in a.image.now in
    let l = c.look-shown.result in
    let z = c.unwrap_or_default-zone.result in
    let zone : z ≡ unwrap_or l.zone_status blank_shown = grind (arith, common_steps) in
    let e = look_is a.image.now c.seen_in-last.result c.utc_time-reading.result a.tick (length a.name.now) l z (cc) (cc) (cc) (grind (arith, common_steps)) zone in
    let roomy : too_short (length a.name.now) (name_or (shown_name t z)) ≡ false = grind (arith, common_steps) in
    let name = rw roomy at c.put_name.ensures in
    let codes = c.look_number.ensures t in
    rw (rw roomy at e, zone_is t l z zone, active_is t l) (grind (arith, common_steps))
