use mathlib.Core.Path.{ap}
use native.Mathlib.Omega.{arith}
use lib.ListN.{length}
use Rattle.rules.specs.Text.Laws.{wide-one}
use Rattle.text.specs.Wrote.{wrote-both}
use Rattle.text.proofs.put_counted.Goals as goal

pub put_bytes-end-requires : goal.put_bytes-end-requires
put_bytes-end-requires c = omega arith

pub put_number-requires : goal.put_number-requires
put_number-requires c = omega (arith, ap length (wide-one c.args.n))

pub shape_of-out : goal.shape_of-out
shape_of-out c = omega arith

pub returns : goal.returns
returns c =
    let w = rw (wide-one c.args.n) at c.put_number.ensures in
    wrote-both _ _ _ _ _ _ _ _ (omega arith) c.put_bytes-end.ensures w
