use Rattle.rules.specs.Fields.{checksum_of}
use Rattle.fields.proofs.checksum.Goals as goal

pub returns : goal.returns
unfolding checksum_of
returns c = cc
