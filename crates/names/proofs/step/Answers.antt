use mathlib.Core.Path.{◌∙◌}
use native.Mathlib.Omega.{arith}
use Rattle.names.specs.Texts.{from-begun, from_low, from-high, from-within}
use Rattle.names.proofs.step.Goals as goal
use Rattle.names.proofs.step.Goals.{then-b-p-via-then-b-p, then-b-p-via-else-b-p+then-p-b}

pub returns-then-p-eq0 : goal.returns-then-p-eq0
returns-then-p-eq0 c bs = c.begun.ensures bs ∙ from-begun _ _ _ _ bs (omega arith)

pub returns-then-b-p : goal.returns-then-b-p
returns-then-b-p c bs =
    elim c.then-b-p.branch [
      | then-b-p-via-then-b-p w ↦ from_low _ _ _ _ bs (omega arith) (omega arith)
      | then-b-p-via-else-b-p+then-p-b w ↦ from-high _ _ _ _ bs (omega arith) (omega arith)
    ]

pub returns : goal.returns
returns c bs = c.due.ensures bs ∙ from-within _ _ _ _ bs (omega arith) (omega arith) (omega arith)
