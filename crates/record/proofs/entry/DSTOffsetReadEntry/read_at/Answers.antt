-- `record::entry::DSTOffsetReadEntry::read_at` meets its contract.
use Rattle.std.proofs.Common.{◌≡◌, w32, to_z, of_z, rules}
use Rattle.record.proofs.Entries.{window_plain, window_unknown, window_with_end}
use Rattle.record.proofs.Sections.{window_reads}
use Rattle.record.proofs.entry.DSTOffsetReadEntry.read_at.Goals as goal
use Rattle.record.proofs.entry.DSTOffsetReadEntry.read_at.Goals.{in-0, in-1+in_ok-u64_at-in-1}

pub returns-in_default : goal.returns-in_default
returns-in_default c = let a = c.args in window_reads a.s.now a.at (window_unknown a.s.now a.at _ c.in_ok-head.ensures (search rules) (search rules))

pub returns : goal.returns
returns c =
    let a = c.args in
    let back : to_z w32 (of_z w32 c.in_ok-head.head.offset) ≡ c.in_ok-head.head.offset = search rules in
    window_reads a.s.now a.at
    (elim c.match-head.branch [
      | in-0 w ↦ rw w.valid_until-is (window_plain a.s.now a.at _ c.in_ok-head.ensures back w.in-0.is)
      | in-1+in_ok-u64_at-in-1 w ↦ rw w.valid_until-is (window_with_end a.s.now a.at _ c.in_ok-head.ensures w.in-1.is back w.in_ok-u64_at-in-1.ensures)
    ])
