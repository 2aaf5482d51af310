use mathlib.Core.Path.{sym, ◌∙◌}
use Rattle.rules.specs.Lists.{pick}
use Rattle.rules.specs.Writing.{live_kind}
use Rattle.slots.proofs.live_kind.Goals as goal

pub returns-then-is_file : goal.returns-then-is_file
unfolding live_kind pick
returns-then-is_file c = rw (sym c.is_file.ensures ∙ c.if-is_file.true)

pub returns-else-is_file : goal.returns-else-is_file
unfolding live_kind pick
returns-else-is_file c = rw (sym c.is_file.ensures ∙ c.if-is_file.false)
