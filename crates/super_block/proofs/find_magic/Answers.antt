use mathlib.Core.Path.{sym, ◌∙◌}
use Rattle.rules.specs.Lists.Laws.{pick_true, pick-false}
use Rattle.rules.specs.Refusals.{edition_of}
use Rattle.editions.specs.View.{edition_view}
use Rattle.super_block.proofs.find_magic.Goals as goal

pub returns-then-magic_good : goal.returns-then-magic_good
unfolding edition_of edition_view
returns-then-magic_good c = sym (pick_true _ _ (sym c.magic_good.ensures ∙ c.if-magic_good.true))

pub returns-then-magic_good-2 : goal.returns-then-magic_good-2
unfolding edition_of edition_view
returns-then-magic_good-2 c = sym (pick-false _ _ (sym c.magic_good.ensures ∙ c.if-magic_good.false) ∙ pick_true _ _ (sym c.magic_good-2.ensures ∙ c.if-magic_good-2.true))

pub returns : goal.returns
unfolding edition_of edition_view
returns c = sym (pick-false _ _ (sym c.magic_good.ensures ∙ c.if-magic_good.false) ∙ pick-false _ _ (sym c.magic_good-2.ensures ∙ c.if-magic_good-2.false))
