use native.Mathlib.Omega.{arith}
use Rattle.rules.specs.Text.{text}
use Rattle.text.specs.Wrote.{wrote-both}
use Rattle.listing.proofs.put_date.Goals as goal

pub put_byte-space-requires : goal.put_byte-space-requires
put_byte-space-requires c = omega arith

pub put_moment-requires : goal.put_moment-requires
put_moment-requires c = omega arith

pub shape_of-out : goal.shape_of-out
shape_of-out c = omega arith

pub returns : goal.returns
returns c = wrote-both _ _ _ _ _ _ (text " ") _ (omega arith) c.put_byte-space.ensures c.put_moment.ensures.0
