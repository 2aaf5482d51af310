use mathlib.Core.Path.{sym, ◌∙◌}
use Rattle.rules.specs.Lists.Laws.{pick_true, pick-false}
use Rattle.slots.specs.Types.{entry_types}
use Rattle.slots.proofs.entry_types.Goals as goal

pub returns-then-keeps_deleted : goal.returns-then-keeps_deleted
unfolding entry_types
returns-then-keeps_deleted c = sym (pick_true _ _ (sym c.keeps_deleted.ensures ∙ c.if-keeps_deleted.true))

pub returns-else-keeps_deleted : goal.returns-else-keeps_deleted
unfolding entry_types
returns-else-keeps_deleted c = sym (pick-false _ _ (sym c.keeps_deleted.ensures ∙ c.if-keeps_deleted.false))
