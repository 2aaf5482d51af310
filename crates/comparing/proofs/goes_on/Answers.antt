use borrow.Author.Tests.{eq-eqb, ne_eqb}
use Rattle.rules.specs.Comparing.{goes_on}
use Rattle.comparing.proofs.goes_on.Goals as goal

pub returns-then-b-p : goal.returns-then-b-p
unfolding goes_on
returns-then-b-p c = rw (eq-eqb _ _ c.if-b-p.true)

pub returns-else-b-p : goal.returns-else-b-p
unfolding goes_on
returns-else-b-p c = rw (ne_eqb _ _ c.if-b-p.false)
