use mathlib.Core.Path.{◌∙◌}
use native.Mathlib.Omega.{arith}
use Rattle.names.specs.Texts.{begun-E0, begun-ED, begun-three}
use Rattle.names.proofs.first_of_three.Goals as goal

pub returns-in-224 : goal.returns-in-224
returns-in-224 c bs = c.due.ensures bs ∙ begun-E0 _ bs (omega arith)

pub returns-in-237 : goal.returns-in-237
returns-in-237 c bs = c.due-in-237.ensures bs ∙ begun-ED _ bs (omega arith)

pub returns-in_default : goal.returns-in_default
returns-in_default c bs = c.due-in_default.ensures bs ∙ begun-three _ bs (omega arith) (λ e. omega arith) (omega arith)
