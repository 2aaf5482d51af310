use Rattle.ordering.specs.Regions.{key_end}
use Rattle.regions.proofs.key_end.Goals as goal

pub returns : goal.returns
unfolding key_end
returns c = c.at.ensures
