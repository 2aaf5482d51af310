use mathlib.Core.Path.{ap, ◌∙◌}
use Rattle.editions.specs.View.{edition_view}
use native.Mathlib.Omega.{arith}
use lib.ListN.{drop}
use Rattle.rules.specs.Index.{name_at}
use Rattle.slots.specs.View.{slots-low, field-read}
use Rattle.slots.proofs.name_field.Goals as goal

pub kind_at-requires : goal.kind_at-requires
kind_at-requires c = omega (arith, slots-low (edition_view c.args.ed) (drop c.args.at.0 c.args.img.now))

pub slots_at-requires : goal.slots_at-requires
slots_at-requires c = let a = c.args in omega (arith, slots-low (edition_view a.ed) (drop a.at.0 a.img.now))

pub returns : goal.returns
returns c =
    let a = c.args in
    field-read _ a.img.now a.at.0 _ _ _ _ c.slots_at.ensures.0 (c.name_at.ensures.0 ∙ ap (name_at _) c.kind_at.ensures)
    (c.index-start.ensures ∙ c.after-name.ensures)
    (c.index-end.ensures ∙ c.after_slots-rest.ensures)
