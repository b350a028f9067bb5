-- Writing and reading undo each other.
use Rattle.std.proofs.Common.{List, ◌≡◌, sym, ap, ◌∙◌, subst, ℕ, ◌≤◌, length}
use Rattle.std.proofs.Math.Seq.{take-append_seam}
use Rattle.model.specs.Lists.{Lists}
use Rattle.model.specs.Bytes.{record_bytes, record_most, read_record}
use Rattle.model.proofs.WriteBack.{record_back}
use Rattle.model.proofs.ReadBack.{record_written}
use Rattle.model.proofs.Stored.{accepted_reads_back}
use Rattle.record.specs.Written.{record_of}
use Rattle.record.specs.RoundTrip.{bytes_of, WrittenReads, ReadWrites}

-- the bytes of the buffer, as many as its length says, are the record's
pub bytes_are : (l : Lists) → bytes_of (record_of l) ≡ record_bytes l
unfolding record_of
bytes_are l = take-append_seam (record_bytes l) _

pub written_reads : WrittenReads
written_reads r l a k f = ((accepted_reads_back r a l k f).short, ap read_record (bytes_are l) ∙ record_back l f)

pub read_writes : ReadWrites
read_writes r s l a b h k =
    let w = record_written s l b h in
    (subst (λ (x : List ℕ). length x ≤ record_most) (sym w.0) (accepted_reads_back r a l k w.1).short, bytes_are l ∙ sym w.0)
