use Rattle.blocks.proofs.Powers.{shifted}
use Rattle.blocks.proofs.block_bytes.Goals as goal

pub returns : goal.returns
returns c = shifted _ c.requires
