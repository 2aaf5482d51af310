use native.Mathlib.Omega.{arith}
use Rattle.editions.specs.View.{edition_view}
use Rattle.runs.specs.Sealed.{seal-some, seal-none}
use Rattle.runs.proofs.seal.Goals as goal

pub returns-then-sum_length-gt0 : goal.returns-then-sum_length-gt0
returns-then-sum_length-gt0 c =
    let a = c.args in
    seal-some (edition_view a.ed) a.img.now a.at.0 a.slots _ c.sum_length.ensures.0 c.if-sum_length-gt0.true _ _ _ _ _ c.bytes_of.ensures c.checksum-sum.ensures c.from.ensures (omega arith) c.after.ensures c.put_le.ensures

pub returns-else-sum_length-gt0 : goal.returns-else-sum_length-gt0
returns-else-sum_length-gt0 c =
    let a = c.args in
    seal-none (edition_view a.ed) a.img.now a.at.0 a.slots _ c.sum_length.ensures.0 c.if-sum_length-gt0.false
