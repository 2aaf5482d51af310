use Rattle.rules.specs.Editions.{by_edition, version_of}
use Rattle.editions.specs.View.{is-second, is-first}
use Rattle.editions.proofs.Edition.version.Goals as goal

pub returns-in-Second : goal.returns-in-Second
unfolding version_of by_edition
returns-in-Second c = rw (is-second _ c.in-Second.is)

pub returns-in-First : goal.returns-in-First
unfolding version_of by_edition
returns-in-First c = rw (is-first _ c.in-First.is)
