use mathlib.Core.Path.{◌∙◌}
use Rattle.reading.proofs.find.Goals as goal

pub returns-in-Ok : goal.returns-in-Ok
returns-in-Ok c = rw c.in-Ok.is at c.find_entry.ensures

pub returns-in-Err : goal.returns-in-Err
returns-in-Err c = c.no_entry.ensures _ ∙ rw c.in-Err.is at c.find_entry.ensures
