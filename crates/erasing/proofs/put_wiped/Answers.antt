use mathlib.Core.Path.{◌∙◌}
use Rattle.slots.specs.View.{head_view}
use Rattle.erasing.proofs.put_wiped.Goals as goal

pub returns : goal.returns
unfolding head_view
returns c s = c.clear_run.ensures ∙ rw (c.put_sizes.ensures, c.clear_region.ensures s)
