use Rattle.rules.specs.SuperBlock.{block_length}
use Rattle.geometry.proofs.Geometry.block_length.Goals as goal

pub returns : goal.returns
unfolding block_length
returns c = c.block_bytes.ensures
