use Rattle.rules.specs.RegionTable.{apart_number}
use Rattle.region_table.proofs.apart_number.Goals as goal

pub returns-then-apart : goal.returns-then-apart
unfolding apart_number
returns-then-apart c = rw c.if-apart.true

pub returns-else-apart : goal.returns-else-apart
unfolding apart_number
returns-else-apart c = rw c.if-apart.false c.from.ensures
