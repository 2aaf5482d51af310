use Rattle.rules.specs.Editions.{by_edition, super_block_at}
use Rattle.editions.specs.View.{is-second, is-first}
use Rattle.editions.proofs.Edition.super_block.Goals as goal

pub returns-in-Second : goal.returns-in-Second
unfolding super_block_at by_edition
returns-in-Second c = rw (is-second _ c.in-Second.is) c.at-in-Second.ensures

pub returns-in-First : goal.returns-in-First
unfolding super_block_at by_edition
returns-in-First c = rw (is-first _ c.in-First.is) c.at.ensures
