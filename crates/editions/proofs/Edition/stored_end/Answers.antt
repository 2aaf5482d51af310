use native.Mathlib.Omega.{arith}
use Rattle.rules.specs.Editions.{by_edition, stored_end}
use Rattle.editions.specs.View.{is-second, is-first}
use Rattle.editions.proofs.Edition.stored_end.Goals as goal

pub returns-in-Second : goal.returns-in-Second
unfolding stored_end by_edition
returns-in-Second c = rw (is-second _ c.in-Second.is) (omega (arith, c.at-in-Second.ensures, c.blocks_past.ensures, c.at.ensures))

pub returns-in-First : goal.returns-in-First
unfolding stored_end by_edition
returns-in-First c = rw (is-first _ c.in-First.is)
