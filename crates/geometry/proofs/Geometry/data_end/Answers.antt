use Rattle.rules.specs.SuperBlock.{data_end}
use Rattle.geometry.proofs.Geometry.data_end.Goals as goal

pub returns : goal.returns
unfolding data_end
returns c = cc
