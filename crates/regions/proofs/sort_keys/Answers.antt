use Rattle.regions.specs.Gathering.{sorted-keys}
use Rattle.regions.proofs.sort_keys.Goals as goal

pub returns : goal.returns
returns c = sorted-keys _ _ _ _ _ c.sort_from.ensures
