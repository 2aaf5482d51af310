use Rattle.rules.specs.Editions.{by_edition, keeps_deleted}
use Rattle.editions.specs.View.{is-second, is-first}
use Rattle.editions.proofs.Edition.keeps_deleted.Goals as goal

pub returns-in-First : goal.returns-in-First
unfolding keeps_deleted by_edition
returns-in-First c = rw (is-first _ c.in-First.is)

pub returns-in_default : goal.returns-in_default
unfolding keeps_deleted by_edition
returns-in_default c = rw (is-second _ c.in_default.is)
