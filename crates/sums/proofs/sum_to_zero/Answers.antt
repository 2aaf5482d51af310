use Rattle.sums.specs.Summed.{alike}
use Rattle.sums.proofs.sum_to_zero.Goals as goal

pub returns : goal.returns
unfolding alike
returns c = rw c.number-first.ensures
