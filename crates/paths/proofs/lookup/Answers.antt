use Rattle.paths.proofs.lookup.Goals as goal

pub returns : goal.returns
returns c = c.find.ensures.searched
