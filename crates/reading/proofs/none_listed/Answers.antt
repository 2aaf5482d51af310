use Rattle.rules.specs.Outcome.{none_listed, no_entry}
use Rattle.reading.proofs.none_listed.Goals as goal

pub returns : goal.returns
unfolding none_listed no_entry
returns c s out = let h = c.default.ensures in rw (c.from.ensures, h.1.0, h.1.1.0, h.1.1.1.0, h.1.1.1.1.0, h.1.1.1.1.1.0, h.1.1.1.1.1.1.0, h.1.1.1.1.1.1.1)
