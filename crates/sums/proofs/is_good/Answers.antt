use mathlib.Core.Path.{sym, ◌∙◌}
use borrow.Author.Tests.{eq-eqb}
use Rattle.sums.specs.Summed.{good-first, good-second}
use Rattle.sums.proofs.is_good.Goals as goal

pub returns-then-sum_length-eq0 : goal.returns-then-sum_length-eq0
returns-then-sum_length-eq0 c =
    let z = c.if-sum_length-eq0.true in
    eq-eqb _ 0 z ∙ good-first _ _ _ _ (sym c.sum_length.ensures.0 ∙ z)

pub returns-else-sum_length-eq0 : goal.returns-else-sum_length-eq0
returns-else-sum_length-eq0 c = c.sum_to_zero.ensures ∙ good-second _ _ _ _ (λ e. c.if-sum_length-eq0.false (c.sum_length.ensures.0 ∙ e))
