use native.Mathlib.Omega.{arith}
use Rattle.text.specs.Wrote.{wrote-both}
use Rattle.text.proofs.put_time.Goals as goal

-- Four writings are one. Assumes nothing.
pub put_two-h-requires : goal.put_two-h-requires
put_two-h-requires c = omega arith

pub put_two-m-requires : goal.put_two-m-requires
put_two-m-requires c = omega arith

pub put_two-s-requires : goal.put_two-s-requires
put_two-s-requires c = omega arith

pub put_byte-requires : goal.put_byte-requires
put_byte-requires c = omega arith

pub shape_of-out : goal.shape_of-out
shape_of-out c = omega arith

pub returns : goal.returns
returns c = (
  wrote-both _ _ _ _ _ _ _ _ (omega arith) c.put_two-h.ensures.0
      (wrote-both _ _ _ _ _ _ _ _ (omega arith) c.put_two-m.ensures.0
      (wrote-both _ _ _ _ _ _ _ _ (omega arith) c.put_two-s.ensures.0 c.put_byte.ensures)),
  omega arith,
)
