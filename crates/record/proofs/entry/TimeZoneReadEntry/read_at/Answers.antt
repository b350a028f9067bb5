-- `record::entry::TimeZoneReadEntry::read_at` meets its contract.
use Rattle.std.proofs.Common.{◌≡◌, w32, to_z, of_z, rules}
use Rattle.record.proofs.Entries.{zone_plain, zone_unknown, zone_with_name}
use Rattle.record.proofs.Sections.{zone_reads}
use Rattle.record.proofs.entry.TimeZoneReadEntry.read_at.Goals as goal
use Rattle.record.proofs.entry.TimeZoneReadEntry.read_at.Goals.{in-0, in-1+in_ok-name-in-1}

pub returns-in_default : goal.returns-in_default
returns-in_default c = let a = c.args in zone_reads a.s.now a.at (zone_unknown a.s.now a.at _ c.in_ok-head.ensures (search rules) (search rules))

pub returns : goal.returns
returns c =
    let a = c.args in
    let back : to_z w32 (of_z w32 c.in_ok-head.head.offset) ≡ c.in_ok-head.head.offset = search rules in
    zone_reads a.s.now a.at
    (elim c.match-head.branch [
      | in-0 w ↦ rw w.name-is (zone_plain a.s.now a.at _ c.in_ok-head.ensures back w.in-0.is)
      | in-1+in_ok-name-in-1 w ↦ rw w.name-is (zone_with_name a.s.now a.at _ c.in_ok-head.ensures w.in-1.is back w.in_ok-name-in-1.ensures)
    ])
