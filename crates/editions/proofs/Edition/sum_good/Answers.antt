use Rattle.rules.specs.Editions.{by_edition, sum_good}
use Rattle.editions.specs.View.{is-second, is-first}
use Rattle.editions.proofs.Edition.sum_good.Goals as goal

pub returns-in-Second : goal.returns-in-Second
unfolding sum_good by_edition
returns-in-Second c = rw (is-second _ c.in-Second.is) c.sums_to_zero.ensures

pub returns-in-First : goal.returns-in-First
unfolding sum_good by_edition
returns-in-First c = rw (is-first _ c.in-First.is)
