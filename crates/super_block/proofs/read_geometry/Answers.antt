use mathlib.Core.Path.{refl, ap, ◌∙◌}
use Rattle.rules.specs.Fields.{le}
use Rattle.super_block.specs.Tests.{geometry-by}
use Rattle.super_block.proofs.read_geometry.Goals as goal

pub returns : goal.returns
returns c =
    let s = c.args.img.now in
    geometry-by _ s _ refl
    (c.le64_at.ensures ∙ ap (le 8 s) c.place.ensures.0)
    (c.le64_at-2.ensures ∙ ap (le 8 s) c.place-2.ensures.0)
    (c.le64_at-3.ensures ∙ ap (le 8 s) c.place-3.ensures.0)
    c.byte_at.ensures
    (c.le64_at-4.ensures ∙ ap (le 8 s) c.place-4.ensures.0)
    (c.le32_at.ensures ∙ ap (le 4 s) c.place-5.ensures.0)
    c.byte_at-2.ensures
