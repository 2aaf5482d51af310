use Rattle.rules.specs.SuperBlock.{grow_index, with_index}
use mathlib.Core.Path.{refl}
use Rattle.geometry.proofs.Geometry.grow_index.Goals as goal

pub returns : goal.returns
unfolding grow_index with_index
returns c = refl
