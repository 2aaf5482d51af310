use native.Mathlib.Omega.{arith}
use Rattle.rules.specs.Fields.{signed_of}
use Rattle.editions.specs.View.{edition_view}
use Rattle.runs.specs.Written.{retype-put}
use Rattle.runs.proofs.retype.Goals as goal

pub returns : goal.returns
returns c =
    let a = c.args in
    retype-put (edition_view a.ed) a.img.now _ _ a.at.0 a.kind _ _ (signed_of a.stamp) c.from.ensures (omega arith)
    c.field.ensures.0 c.put_le.ensures c.put_stamp.ensures
