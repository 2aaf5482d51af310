use Rattle.rules.specs.Editions.{by_edition, before_directories}
use Rattle.editions.specs.View.{is-second, is-first}
use Rattle.editions.proofs.Edition.before_directories.Goals as goal

pub returns-in-Second : goal.returns-in-Second
unfolding before_directories by_edition
returns-in-Second c = rw (is-second _ c.in-Second.is)

pub returns-in_default : goal.returns-in_default
unfolding before_directories by_edition
returns-in_default c = rw (is-first _ c.in_default.is)
