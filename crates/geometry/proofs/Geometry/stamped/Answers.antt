use Rattle.rules.specs.SuperBlock.{with_stamp}
use mathlib.Core.Path.{refl}
use Rattle.geometry.proofs.Geometry.stamped.Goals as goal

pub returns : goal.returns
unfolding with_stamp
returns c = refl
