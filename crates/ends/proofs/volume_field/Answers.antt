use mathlib.Core.Path.{◌∙◌}
use Rattle.ends.specs.Ends.{field-read}
use Rattle.ends.proofs.volume_field.Goals as goal

pub returns : goal.returns
returns c =
    let i = c.identifier in
    field-read c.args.img.now _ i.ensures.0 i.ensures.1 _ (c.index-at.ensures ∙ c.after-name.ensures)
