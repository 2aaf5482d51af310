use Rattle.ends.specs.Ends.{identifier-place}
use Rattle.ends.proofs.identifier.Goals as goal

pub returns : goal.returns
returns c = identifier-place c.args.img.now _ c.requires c.index_start.ensures
