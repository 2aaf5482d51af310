use borrow.Author.Tests.{eq-eqb, ne_eqb}
use Rattle.paths.specs.View.{sought_kind}
use Rattle.paths.proofs.is_sought.Goals as goal

pub returns-then-kind-what : goal.returns-then-kind-what
unfolding sought_kind
returns-then-kind-what c = rw (eq-eqb _ _ c.if-kind-what.true)

pub returns-else-kind-what : goal.returns-else-kind-what
unfolding sought_kind
returns-else-kind-what c = rw (ne_eqb _ _ c.if-kind-what.false)
