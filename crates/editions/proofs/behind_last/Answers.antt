use mathlib.Core.Path.{sym, ◌∙◌}
use borrow.Author.Tests.{eq-eqb, ne_eqb}
use Rattle.rules.specs.Lists.Laws.{pick_true, pick-false}
use Rattle.editions.proofs.behind_last.Goals as goal

pub returns-then-number-eq0 : goal.returns-then-number-eq0
returns-then-number-eq0 c = let z = sym c.number.ensures ∙ c.if-number-eq0.true in z ∙ sym (pick_true _ _ (eq-eqb _ _ z))

pub returns-else-number-eq0 : goal.returns-else-number-eq0
returns-else-number-eq0 c = c.after.ensures ∙ sym (pick-false _ _ (ne_eqb _ _ (λ e. c.if-number-eq0.false (c.number.ensures ∙ e))))
