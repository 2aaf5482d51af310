use mathlib.Core.Path.{◌∙◌}
use Rattle.editions.specs.View.{edition_view}
use Rattle.runs.specs.Written.{file-put}
use Rattle.runs.proofs.put_file.Goals as goal

pub returns : goal.returns
returns c =
    let h = c.args.h in
    file-put (edition_view h.edition) c.args.img.now h.at.0 _ _ _ _ _ _ c.requires c.field.ensures.0 c.field-2.ensures.0 c.field-3.ensures.0 _ _ _
    c.put_le.ensures c.put_le-2.ensures c.put_le-3.ensures
    ∙ rw (c.number.ensures, c.number-2.ensures)
