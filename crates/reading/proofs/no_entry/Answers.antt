use Rattle.rules.specs.Outcome.{no_entry}
use Rattle.reading.proofs.no_entry.Goals as goal

pub returns : goal.returns
unfolding no_entry
returns c s = let h = c.default.ensures in rw (c.from.ensures, h.1.0, h.1.1.0, h.1.1.1.0, h.1.1.1.1.0, h.1.1.1.1.1.0, h.1.1.1.1.1.1)
