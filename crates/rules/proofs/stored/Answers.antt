-- `rules::stored` meets its contract.
use Rattle.std.proofs.Common.{◌∙◌}
use Rattle.rules.proofs.Whole.{read}
use Rattle.rules.proofs.Readers.{record_unread}
use Rattle.rules.proofs.stored.Goals as goal

pub returns-clause-unread : goal.returns-clause-unread
returns-clause-unread c h =
    let a = c.args in
    rw c.or.ensures (read a.zone_limit a.window_limit a.s.now c.in-Some.ensures ∙ record_unread a.zone_limit a.window_limit a.s.now h)
