use mathlib.Core.Path.{ap, ◌∙◌}
use Rattle.free_runs.specs.View.{free_view, view_some}
use Rattle.free_runs.proofs.free_below.Goals as goal

pub returns : goal.returns
returns c = ap free_view c.then_some.ensures ∙ rw (← c.has_room.ensures.value) (view_some _ _)
