use native.Mathlib.Omega.{arith}
use Rattle.rules.specs.Fields.Laws.{length-le_bytes}
use Rattle.text.specs.Wrote.{wrote-both}
use Rattle.records.proofs.put_place.Goals as goal

pub put_number-start-requires : goal.put_number-start-requires
put_number-start-requires c = omega (arith, length-le_bytes 8 c.number.result)

pub put_number-requires : goal.put_number-requires
put_number-requires c = omega (arith, length-le_bytes 8 c.number.result, length-le_bytes 8 c.wide.result)

pub returns : goal.returns
returns c =
    let l₁ = length-le_bytes 8 c.number.result in
    let l₂ = length-le_bytes 8 c.wide.result in
    let l₃ = length-le_bytes 8 c.number-2.result in
    rw (← c.number.ensures, ← c.wide.ensures.0, ← c.number-2.ensures)
    (wrote-both _ _ _ _ _ _ _ _ (omega arith) c.put_number-kind.ensures
    (wrote-both _ _ _ _ _ _ _ _ (omega arith) c.put_number-start.ensures c.put_number.ensures))

pub shape_of-out : goal.shape_of-out
shape_of-out c = omega arith
