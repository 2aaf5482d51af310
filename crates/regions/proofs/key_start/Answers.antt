use Rattle.ordering.specs.Regions.{key_start}
use Rattle.regions.proofs.key_start.Goals as goal

pub returns : goal.returns
unfolding key_start
returns c = c.at.ensures
