-- `word::or_zero::put_u16` meets its contract.
use Rattle.word.proofs.Parts.{wrote_le}
use Rattle.word.proofs.or_zero.put_u16.Goals as goal

pub returns : goal.returns
returns c = wrote_le 2 c.args.out.now c.args.at c.args.v c.to_le_bytes.ensures c.put_bytes.ensures
