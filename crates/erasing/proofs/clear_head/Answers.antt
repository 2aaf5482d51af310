use mathlib.Core.Path.{sym, ◌∙◌}
use Rattle.rules.specs.Lists.Laws.{pick_true, pick-false}
use Rattle.erasing.specs.Reclaim.{head_cleared}
use Rattle.erasing.proofs.clear_head.Goals as goal

pub returns-then-is_deleted : goal.returns-then-is_deleted
unfolding head_cleared
returns-then-is_deleted c = c.clear_run.ensures ∙ sym (pick_true _ _ (sym c.is_deleted.ensures ∙ c.if-is_deleted.true))

pub returns-else-is_deleted : goal.returns-else-is_deleted
unfolding head_cleared
returns-else-is_deleted c = sym (pick-false _ _ (sym c.is_deleted.ensures ∙ c.if-is_deleted.false))
