use mathlib.Core.Path.{◌∙◌, ap}
use Rattle.rules.specs.Editions.{sum_good}
use Rattle.slots.proofs.sum_good.Goals as goal

pub returns : goal.returns
returns c = c.sum_good.ensures ∙ ap (sum_good _) c.bytes_of.ensures
