use Rattle.rules.specs.SuperBlock.{ceiling_block}
use Rattle.geometry.proofs.Geometry.ceiling.Goals as goal

pub returns : goal.returns
unfolding ceiling_block
returns c = cc
