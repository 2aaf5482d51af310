use mathlib.Core.Path.{◌∙◌}
use Rattle.free_runs.specs.InOrder.{free-in-order}
use Rattle.free_runs.proofs.lowest_free.Goals as goal

pub returns : goal.returns
returns c es h = c.free_below.ensures ∙ free-in-order es _ h _ _ _ c.requires _ c.free_from-b.ensures
