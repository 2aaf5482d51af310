use Rattle.rules.specs.Names.{new_path_good}
use Rattle.names.proofs.new_path_good.Goals as goal

pub returns-then-path_good : goal.returns-then-path_good
unfolding new_path_good
returns-then-path_good c = rw (← c.path_good.ensures, c.if-path_good.true)

pub returns-else-path_good : goal.returns-else-path_good
unfolding new_path_good
returns-else-path_good c = rw (← c.path_good.ensures, c.if-path_good.false)
