use Rattle.rules.specs.Fields.{checks}
use Rattle.fields.proofs.sums_to_zero.Goals as goal

pub returns : goal.returns
unfolding checks
returns c = cc
