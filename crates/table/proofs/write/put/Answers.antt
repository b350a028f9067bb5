-- `write::put` meets its contract: what it answers and leaves, by the record of the lists.
use Rattle.std.proofs.Common.{arith}
use Rattle.table.specs.Layout.{lists_in}
use Rattle.table.proofs.Recorded.{no_room, put_is}
use Rattle.table.proofs.write.put.Goals as goal

pub returns-then-out-record_length-clause-recorded : goal.returns-then-out-record_length-clause-recorded
returns-then-out-record_length-clause-recorded c = no_room (lists_in c.args.table.now) c.args.out.now (omega arith)

pub returns-clause-recorded : goal.returns-clause-recorded
returns-clause-recorded c = put_is (lists_in c.args.table.now) c.args.out.now (omega arith) (grind arith) c.put_record.ensures.0
