use mathlib.Core.Path.{◌∙◌}
use Rattle.reading.proofs.read.Goals as goal

pub returns-in-Ok : goal.returns-in-Ok
returns-in-Ok c = rw c.in-Ok.is at c.read_entry.ensures

pub returns-in-Err : goal.returns-in-Err
returns-in-Err c = c.no_content.ensures _ _ ∙ rw c.in-Err.is at c.read_entry.ensures
