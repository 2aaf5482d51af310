use Rattle.slots.specs.View.{head_view}
use Rattle.slots.proofs.past_end.Goals as goal

pub returns : goal.returns
unfolding head_view
returns c = λ s. c.past_end.ensures
