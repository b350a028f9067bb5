-- `timesync_replay` meets its contract.
use Rattle.std.proofs.Common.{length, rules}
use Rattle.model.specs.Rules.{Rules}
use Rattle.replay.specs.Replays.{Lent}
use Rattle.replay.proofs.Claimed.{claims}
use Rattle.replay.proofs.timesync_replay.Goals as goal

pub returns-in-Ok-clause-claim : goal.returns-in-Ok-clause-claim
returns-in-Ok-clause-claim c =
    let a = c.args in
    let r : Rules = record { zone_limit = a.zone_limit; window_limit = a.window_limit } in
    let t : Lent = record { moments = a.moments.now; steps = a.steps.now; name = a.name.now; zone = a.zone.now; named = a.named.now; name_used = a.name_used.now; active = a.active.now; window = a.window.now; usable = a.usable.now; has_next = a.has_next.now; next = a.next.now; out = a.out.now; used = a.used.now; generation = a.generation.now } in
    claims r a.history.now a.start a.at (length a.moments.now) (length a.name.now) (length a.out.now) t _ _ (search rules) (search rules)
