use mathlib.Core.Path.{◌∙◌}
use Rattle.reading.proofs.open.Goals as goal

pub returns-in-Ok : goal.returns-in-Ok
returns-in-Ok c = rw c.in-Ok.is at c.open_volume.ensures

pub returns-in-Err : goal.returns-in-Err
returns-in-Err c = c.no_volume.ensures _ _ ∙ rw c.in-Err.is at c.open_volume.ensures
