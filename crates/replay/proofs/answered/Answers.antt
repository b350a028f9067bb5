-- `answered` meets its contract.
use Rattle.std.proofs.Common.{w32, to_z, of_z, rules, option_map, List, ◌≡◌, refl, sym, ap, ◌∙◌, ℕ, arith, length}
use Rattle.std.specs.Option.{option_copied}
use Rattle.std.proofs.lemmas.Grind.{common_steps}
use Rattle.std.proofs.lemmas.Result.{err_from_is_err_and}
use Rattle.model.specs.Lookups.{ZoneNow}
use Rattle.model.specs.Output.{copied_over, moments_bytes, name_or}
use Rattle.lookups.proofs.Owned.{walk_by_value}
use Rattle.word.proofs.Writes.{length_numbers, all_placed}
use Rattle.replay.proofs.Written.{walked_moments, moments_long, zone_told, put_over}
use Rattle.replay.proofs.Claimed.{room_none, room_some, no_moments_room, no_name_room, no_record_room, all_told}
use Rattle.replay.proofs.answered.Goals as goal
use Rattle.replay.proofs.answered.Goals.{then-moments-walked-via-then-moments-walked, then-moments-walked-via-else-moments-walked+then-name-zone_name}

pub returns-then-moments-walked : goal.returns-then-moments-walked
returns-then-moments-walked c =
    let a = c.args in
    let long = moments_long (walked_moments a.table.now a.start c.walk-walk.ensures c.walked-walked.ensures) in
    let name : c.unwrap_or_default-zone_name.result.now ≡ name_or (option_copied c.name_in-named.result) = grind (arith, common_steps) in
    let told = name ∙ ap name_or (c.name_in-named.ensures ∙ ap (λ (x : ZoneNow). x.name) (zone_told a.table.now a.at c.active_time_zone-zone.ensures)) in
    elim c.then-moments-walked.branch [
      | then-moments-walked-via-then-moments-walked w ↦ rw (no_moments_room a.table.now a.start a.at (length a.moments.now) (length a.name.now) (length a.out.now) (omega arith)) (record { value = refl; walked = refl; named = refl; stored = refl })
      | then-moments-walked-via-else-moments-walked+then-name-zone_name w ↦ rw (no_name_room a.table.now a.start a.at (length a.moments.now) (length a.name.now) (length a.out.now) (omega (arith, ap length told))) (record { value = refl; walked = refl; named = refl; stored = refl })
    ]

pub returns-in_err-stored : goal.returns-in_err-stored
returns-in_err-stored c =
    let a = c.args in
    let short = room_none _ _ (sym c.put.ensures.length ∙ c.in_err-stored.ensures.ok_part) in
    let cause = rw c.in_err-stored.ensures.ok_part at c.in_err-stored.ensures.value in
    let answer = err_from_is_err_and c.from_residual.result c.from_residual.ensures.1 in
    let is = answer.1 in
    let same = answer.2 in
    rw (no_record_room a.table.now a.start a.at (length a.moments.now) (length a.name.now) (length a.out.now) short) (record { value = cc; walked = refl; named = refl; stored = c.put.ensures.copied ∙ rw short })

pub returns : goal.returns
returns c =
    let a = c.args in
    let z = zone_told a.table.now a.at c.active_time_zone-zone.ensures in
    let w = walk_by_value a.table.now a.start _ c.walk-walk.ensures in
    let moments = walked_moments a.table.now a.start c.walk-walk.ensures c.walked-walked.ensures in
    let long = moments_long moments in
    let name : c.unwrap_or_default-zone_name.result.now ≡ name_or (option_copied c.name_in-named.result) = grind (arith, common_steps) in
    let named : c.map.result ≡ option_map length (option_copied c.name_in-named.result) = grind (arith, common_steps) in
    let zone = c.name_in-named.ensures ∙ ap (λ (x : ZoneNow). x.name) z in
    let told = name ∙ ap name_or zone in
    let back : to_z w32 (of_z w32 c.active_time_zone-zone.result.offset) ≡ c.active_time_zone-zone.result.offset = search rules in
    let offset = back ∙ ap (λ (x : ZoneNow). x.offset) z in
    let length_told = named ∙ ap (option_map length) zone in
    let fits = room_some _ _ _ (sym c.put.ensures.length ∙ c.in_ok-stored.ensures.ok_part) in
    let placed = all_placed a.moments.now c.walked-walked.result.now c.put_u64s.ensures.fits c.put_u64s.ensures.written in
    rw (all_told a.table.now a.start a.at (length a.moments.now) (length a.name.now) (length a.out.now) (omega arith) (omega (arith, ap length told)) fits.0)
    (record {
      value = grind arith;
      walked = put_over a.moments.now _ placed.1 (omega (arith, length_numbers c.walked-walked.result.now)) ∙ ap (λ (ms : List ℕ). copied_over (moments_bytes ms) a.moments.now) moments;
      named = put_over a.name.now _ c.put-2.ensures.1 c.if-name-zone_name.false ∙ ap (λ (n : List ℕ). copied_over n a.name.now) told;
      stored = c.put.ensures.copied ∙ rw fits.0;
    })
