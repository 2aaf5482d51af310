use Rattle.rules.specs.SuperBlock.{writable}
use Rattle.geometry.proofs.Geometry.is_writable.Goals as goal

pub returns : goal.returns
unfolding writable
returns c = c.writes.ensures
