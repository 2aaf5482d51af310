use native.Mathlib.Omega.{arith}
use lib.ListN.{length}
use Rattle.rules.specs.Fields.Laws.{length-le_bytes}
use Rattle.text.specs.Wrote.{wrote-both}
use Rattle.records.proofs.put_path.Goals as goal

pub put_bytes-requires : goal.put_bytes-requires
put_bytes-requires c =
    let a = c.args in
    omega (arith, length-le_bytes 8 (length a.path.now))

pub returns : goal.returns
returns c =
    let a = c.args in
    let l = length-le_bytes 8 (length a.path.now) in
    wrote-both _ _ _ _ _ _ _ _ (omega arith) c.put_number-bytes.ensures c.put_bytes.ensures

pub shape_of-out : goal.shape_of-out
shape_of-out c = omega arith
