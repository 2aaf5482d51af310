use native.Mathlib.Omega.{arith}
use Rattle.rules.specs.Fields.{signed_of}
use Rattle.rules.specs.Fields.Laws.{length-le_bytes}
use Rattle.text.specs.Wrote.{wrote-both}
use Rattle.laws.proofs.Records.Packed.{stamp-length}
use Rattle.records.proofs.put_extent.Goals as goal

pub put_number-stamp-requires : goal.put_number-stamp-requires
put_number-stamp-requires c = omega (arith, length-le_bytes 8 c.number.result)

pub put_stamp-requires : goal.put_stamp-requires
put_stamp-requires c =
    let a = c.args in
    omega (arith, length-le_bytes 8 c.number.result, length-le_bytes 8 a.h.length)

pub returns : goal.returns
returns c =
    let a = c.args in
    let l₁ = length-le_bytes 8 c.number.result in
    let l₂ = length-le_bytes 8 a.h.length in
    let l₃ = stamp-length (signed_of a.h.stamp) in
    rw (← c.number.ensures)
    (wrote-both _ _ _ _ _ _ _ _ (omega arith) c.put_number-length.ensures
    (wrote-both _ _ _ _ _ _ _ _ (omega arith) c.put_number-stamp.ensures c.put_stamp.ensures))

pub shape_of-out : goal.shape_of-out
shape_of-out c = omega arith
