use mathlib.Core.Path.{refl}
use native.Mathlib.Omega.{arith}
use Rattle.rules.specs.Editions.{by_edition, sum_length}
use Rattle.editions.specs.View.{is-second, is-first}
use Rattle.editions.proofs.Edition.sum_length.Goals as goal

pub returns-in-Second : goal.returns-in-Second
unfolding sum_length by_edition
returns-in-Second c = rw (is-second _ c.in-Second.is) (refl, omega arith)

pub returns-in-First : goal.returns-in-First
unfolding sum_length by_edition
returns-in-First c = rw (is-first _ c.in-First.is) (refl, omega arith)
