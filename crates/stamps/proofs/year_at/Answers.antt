use Rattle.stamps.proofs.Calendar.{year-mul, year-add, year-is}
use Rattle.stamps.proofs.year_at.Goals as goal

-- `stamps::year_at` meets its contract: era and year are small enough that the product and the sum fit. Assumes nothing.
pub overflow_mul-result : goal.overflow_mul-result
overflow_mul-result c = year-mul c.args.era c.ranges.era c.args.y c.requires.0 c.requires.1

pub overflow_add-result : goal.overflow_add-result
overflow_add-result c = year-add c.args.era c.ranges.era c.args.y c.requires.0 c.requires.1

pub returns : goal.returns
returns c = year-is c.args.era c.ranges.era c.args.y c.requires.0 c.requires.1
