use Rattle.rules.specs.SuperBlock.{trim_data, with_data}
use Rattle.geometry.proofs.Geometry.trim_data.Goals as goal

pub returns : goal.returns
unfolding trim_data with_data
returns c = cc
