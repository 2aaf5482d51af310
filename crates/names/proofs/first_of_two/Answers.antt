use mathlib.Core.Path.{◌∙◌}
use native.Mathlib.Omega.{arith}
use Rattle.names.specs.Texts.{begun-C2, begun-two}
use Rattle.names.proofs.first_of_two.Goals as goal

pub returns-in-194 : goal.returns-in-194
returns-in-194 c bs = c.due.ensures bs ∙ begun-C2 _ bs (omega arith)

pub returns-in_default : goal.returns-in_default
returns-in_default c bs = c.due-in_default.ensures bs ∙ begun-two _ bs (omega arith) (omega arith)
