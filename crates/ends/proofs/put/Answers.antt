use mathlib.Core.Path.{◌∙◌}
use native.Mathlib.Omega.{arith}
use Rattle.rules.specs.Fields.{signed_of}
use Rattle.editions.specs.View.{edition_view}
use Rattle.ends.specs.Ends.{ends-put}
use Rattle.ends.proofs.put.Goals as goal

pub returns : goal.returns
returns c =
    let a = c.args in
    ends-put (edition_view a.ed) (signed_of a.stamp) a.name.now c.requires.1 a.img.now c.index_start-start.result.0 _ (omega arith) c.after_slots.ensures _ _ c.put_marker.ensures c.put_identifier.ensures
    ∙ rw c.index_start-start.ensures
