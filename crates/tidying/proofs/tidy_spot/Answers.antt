use mathlib.Core.Path.{sym, ◌∙◌}
use Rattle.rules.specs.Lists.Laws.{pick_true, pick-false}
use Rattle.tidying.specs.Tidied.{spot_tidied}
use Rattle.tidying.proofs.tidy_spot.Goals as goal

pub returns-then-is_stale : goal.returns-then-is_stale
unfolding spot_tidied
returns-then-is_stale c = c.clear_run.ensures ∙ rw c.slots_to.ensures (sym (pick_true _ _ (sym c.is_stale.ensures ∙ c.if-is_stale.true)))

pub returns-else-is_stale : goal.returns-else-is_stale
unfolding spot_tidied
returns-else-is_stale c = sym (pick-false _ _ (sym c.is_stale.ensures ∙ c.if-is_stale.false))
