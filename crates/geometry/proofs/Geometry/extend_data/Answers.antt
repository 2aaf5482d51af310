use Rattle.rules.specs.SuperBlock.{extend_data, with_data}
use Rattle.geometry.proofs.Geometry.extend_data.Goals as goal

pub returns : goal.returns
unfolding extend_data with_data
returns c = cc
