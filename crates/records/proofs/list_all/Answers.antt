use mathlib.Core.Path.{◌∙◌}
use Rattle.records.proofs.list_all.Goals as goal

pub returns-in-Ok : goal.returns-in-Ok
returns-in-Ok c = rw c.at.ensures at (rw c.in-Ok.is at c.list_all_from.ensures)

pub returns-in-Err : goal.returns-in-Err
returns-in-Err c = c.no_records.ensures _ _ ∙ rw c.at.ensures at (rw c.in-Err.is at c.list_all_from.ensures)
