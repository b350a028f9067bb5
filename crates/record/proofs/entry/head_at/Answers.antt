-- `record::entry::head_at` meets its contract.
use Rattle.std.proofs.Common.{◌≡◌, ◌∙◌, w32, to_z, of_z, rules}
use Rattle.std.proofs.lemmas.List.{take_rest}
use Rattle.record.proofs.Heads.{head_cut}
use Rattle.record.proofs.entry.head_at.Goals as goal

pub returns : goal.returns
returns c =
    let s = c.args.s.now in
    let get = c.in_ok-get.ensures.lookup.0 in
    let back : to_z w32 (of_z w32 c.from_le_bytes.result) ≡ c.from_le_bytes.result = search rules in
    head_cut s c.args.at get.0 (get.2 ∙ take_rest s c.args.at) c.in_ok-offset.ensures.cases c.in_ok-start.ensures.cases c.in_ok-mark.ensures.value
    (back ∙ c.from_le_bytes.ensures) c.from_le_bytes-2.ensures
