use mathlib.Core.Path.{sym, ◌∙◌}
use native.Mathlib.Omega.{arith}
use Rattle.rules.specs.Lists.{pick}
use Rattle.rules.specs.Index.{name_at}
use Rattle.slots.proofs.name_at.Goals as goal

pub returns-then-is_file : goal.returns-then-is_file
unfolding name_at pick
returns-then-is_file c = (rw (sym c.is_file.ensures ∙ c.if-is_file.true) (omega (arith, c.sum_length-sum.ensures)), omega (arith, c.sum_length-sum.ensures))

pub returns-else-is_file : goal.returns-else-is_file
unfolding name_at pick
returns-else-is_file c = (rw (sym c.is_file.ensures ∙ c.if-is_file.false) (omega (arith, c.sum_length-sum.ensures)), omega (arith, c.sum_length-sum.ensures))
