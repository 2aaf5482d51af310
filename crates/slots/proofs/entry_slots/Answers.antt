use mathlib.Core.Path.{sym, ◌∙◌}
use native.Mathlib.Omega.{arith}
use Rattle.slots.specs.Types.{step_run, step-unusable}
use Rattle.slots.proofs.entry_slots.Goals as goal

pub returns-then-kind-eq-UNUSABLE : goal.returns-then-kind-eq-UNUSABLE
returns-then-kind-eq-UNUSABLE c = ((λ left. sym (step-unusable _ left c.args.img.now _ _ c.requires.1 c.requires.2 c.if-kind-eq-UNUSABLE.true)), omega arith)

pub returns : goal.returns
returns c =
    ((λ left. c.slots_at.ensures.0 ∙ sym (step_run _ left c.args.img.now _ _ c.requires.1 c.requires.2 c.if-kind-eq-UNUSABLE.false)), c.slots_at.ensures.2)
