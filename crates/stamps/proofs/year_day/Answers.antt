use mathlib.Core.Path.{refl}
use Rattle.rules.specs.Dates.Quick.{century, in_century, year_of_four, year_of, day_of}
use Rattle.stamps.proofs.year_day.Goals as goal

pub returns : goal.returns
unfolding century in_century year_of_four year_of day_of
returns c = simp (c.min-y.ensures, c.min-c.ensures) (refl, refl)
