-- `word::put_u32` meets its contract.
use Rattle.word.proofs.Parts.{wrote_le}
use Rattle.word.proofs.put_u32.Goals as goal

pub returns : goal.returns
returns c = wrote_le 4 c.args.out.now c.args.at c.args.v c.to_le_bytes.ensures c.put_bytes.ensures
