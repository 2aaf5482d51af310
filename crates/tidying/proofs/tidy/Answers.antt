use mathlib.Core.Path.{sym, ap, ◌∙◌}
use Rattle.rules.specs.Writing.{tidied}
use Rattle.editions.specs.View.{edition_view}
use Rattle.super_block.specs.Ends.{sound-walks}
use Rattle.tidying.specs.Tidied.{nothing_left}
use Rattle.tidying.proofs.tidy.Goals as goal

pub returns-then-keeps_deleted : goal.returns-then-keeps_deleted
returns-then-keeps_deleted c = nothing_left _ _ (sym c.keeps_deleted.ensures ∙ c.if-keeps_deleted.true) c.requires.1

pub tidy_from-requires : goal.tidy_from-requires
tidy_from-requires c =
    let e = c.first_slot-from.ensures in
    (sound-walks _ _ _ e.0 e.1 c.requires.1, e.6)

pub returns : goal.returns
returns c =
    let e = c.first_slot-from.ensures in
    c.tidy_from.ensures _ (ap edition_view e.5) e.2 ∙ ap (tidied _ _) e.0
