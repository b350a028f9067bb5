-- The record buffer: the bytes of the lists, their number, and zeros after them.
use Rattle.std.specs.Prelude.{◌++◌, ◌-◌, length, replicate}
use Rattle.model.specs.Lists.{Lists}
use Rattle.model.specs.Bytes.{record_bytes, record_most}
use Rattle.record.specs.declared.Record.{Record}

-- as many bytes as the buffer has: the record's and then zeros
unfoldable pub record_of : Lists → Record
record_of l = record { bytes = record_bytes l ++ replicate (record_most - length (record_bytes l)) 0; length = length (record_bytes l) }
