use mathlib.Core.Path.{sym, ◌∙◌}
use Rattle.rules.specs.Lists.{pick}
use Rattle.free_runs.specs.Sums.{kept_end}
use Rattle.free_runs.proofs.kept_end.Goals as goal

pub returns-then-is_gone : goal.returns-then-is_gone
unfolding kept_end pick
returns-then-is_gone c s = rw (sym (c.is_gone.ensures s) ∙ c.if-is_gone.true) c.at.ensures

pub returns-else-is_gone : goal.returns-else-is_gone
unfolding kept_end pick
returns-else-is_gone c s = rw (sym (c.is_gone.ensures s) ∙ c.if-is_gone.false) (c.past_end.ensures s)
