use mathlib.Core.Path.{sym, ◌∙◌}
use Rattle.geometry.specs.View.{geometry_view}
use Rattle.rules.specs.Index.{index_sound}
use Rattle.rules.specs.Lists.Laws.{and_left}
use Rattle.super_block.specs.Ends.{sound-by}
use Rattle.super_block.proofs.index_sound.Goals as goal

pub returns-else-are_good : goal.returns-else-are_good
unfolding index_sound
returns-else-are_good c = c.if-are_good.false ∙ sym (and_left _ _ (sym c.are_good.ensures ∙ c.if-are_good.false))

pub returns-then-are_good : goal.returns-then-are_good
returns-then-are_good c =
    let e = sym c.are_good.ensures ∙ c.if-are_good.true in
    c.walk_sound.ensures ∙ sym (sound-by c.args.img.now (geometry_view c.args.g) c.args.from c.requires.1 ∙ rw e)
