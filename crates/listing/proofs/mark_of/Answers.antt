use mathlib.Core.Path.{sym, ◌∙◌}
use Rattle.rules.specs.Lists.Laws.{pick_true, pick-false}
use Rattle.listing.proofs.mark_of.Goals as goal

pub is_file-requires : goal.is_file-requires
is_file-requires c = tt

pub returns-then-is_file : goal.returns-then-is_file
returns-then-is_file c = sym (pick_true _ _ (sym c.is_file.ensures ∙ c.if-is_file.true))

pub returns-else-is_file : goal.returns-else-is_file
returns-else-is_file c = sym (pick-false _ _ (sym c.is_file.ensures ∙ c.if-is_file.false))
