use mathlib.Core.Path.{sym, ◌∙◌}
use Rattle.rules.specs.Regions.{apart}
use Rattle.slots.specs.View.{head_view}
use Rattle.regions.proofs.regions_apart.Goals as goal

pub returns-then-ends_by : goal.returns-then-ends_by
unfolding apart head_view
returns-then-ends_by c s = rw (sym (c.ends_by.ensures s) ∙ c.if-ends_by.true) c.if-ends_by.true

pub returns-else-ends_by : goal.returns-else-ends_by
unfolding apart head_view
returns-else-ends_by c s = rw (sym (c.ends_by.ensures s) ∙ c.if-ends_by.false) (c.ends_by-else-ends_by.ensures s)
