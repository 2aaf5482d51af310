use mathlib.Core.Path.{◌∙◌}
use native.Mathlib.Omega.{arith}
use Rattle.names.specs.Texts.{begun-F0, begun-F4, begun-four}
use Rattle.names.proofs.first_of_four.Goals as goal

pub returns-in-240 : goal.returns-in-240
returns-in-240 c bs = c.due.ensures bs ∙ begun-F0 _ bs (omega arith)

pub returns-in-244 : goal.returns-in-244
returns-in-244 c bs = c.due-in-244.ensures bs ∙ begun-F4 _ bs (omega arith)

pub returns-in_default : goal.returns-in_default
returns-in_default c bs = c.due-in_default.ensures bs ∙ begun-four _ bs (omega arith) (omega arith)
