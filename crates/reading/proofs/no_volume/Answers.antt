use Rattle.rules.specs.Outcome.{no_volume}
use Rattle.reading.proofs.no_volume.Goals as goal

pub returns : goal.returns
unfolding no_volume
returns c s out = let h = c.default.ensures in rw (c.from.ensures, h.1.0, h.1.1.0, h.1.1.1.0, h.1.1.1.1.0, h.1.1.1.1.1.0, h.1.1.1.1.1.1.0, h.1.1.1.1.1.1.1.0, h.1.1.1.1.1.1.1.1.0, h.1.1.1.1.1.1.1.1.1.0, h.1.1.1.1.1.1.1.1.1.1)
