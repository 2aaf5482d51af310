use Rattle.slots.specs.View.{head_view}
use Rattle.slots.proofs.ends_by.Goals as goal

pub returns : goal.returns
unfolding head_view
returns c = λ s. c.ends_by.ensures
