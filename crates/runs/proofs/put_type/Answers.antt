use native.Mathlib.Omega.{arith}
use mathlib.Core.Path.{refl}
use Rattle.editions.specs.View.{edition_view}
use Rattle.runs.specs.Written.{type_put}
use Rattle.runs.proofs.put_type.Goals as goal

pub returns : goal.returns
returns c =
    let a = c.args in
    type_put (edition_view a.ed) a.img.now _ a.at.0 a.kind _ _ _ c.from.ensures (omega arith) c.sum_length.ensures.0 refl c.put_le.ensures
