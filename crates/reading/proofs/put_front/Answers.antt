use native.Mathlib.Omega.{arith}
use Rattle.copying.specs.Front.{copied}
use Rattle.std.proofs.Common.{refl}
use Rattle.reading.specs.Looked.{PutFront}
use Rattle.reading.proofs.put_front.Goals as goal

pub returns-then-out-src : goal.returns-then-out-src
unfolding PutFront
returns-then-out-src c = (c.if-out-src.true, refl)

pub returns : goal.returns
unfolding PutFront
returns c = (refl, c.if-out-src.false, copied _ _ _ c.copy_into.ensures)
