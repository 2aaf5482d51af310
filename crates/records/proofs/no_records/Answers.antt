use Rattle.rules.specs.Records.{no_records}
use Rattle.records.proofs.no_records.Goals as goal

pub returns : goal.returns
unfolding no_records
returns c s out = let h = c.default.ensures in rw (c.from.ensures, h.1.0, h.1.1.0, h.1.1.1)
