use mathlib.Core.List.{[], ◌∷◌}
use native.Mathlib.Omega.{arith}
use Rattle.text.specs.Wrote.{wrote-both}
use Rattle.listing.proofs.put_numbers.Goals as goal

pub mark_of-requires : goal.mark_of-requires
mark_of-requires c = tt

pub put_byte-mark-requires : goal.put_byte-mark-requires
put_byte-mark-requires c = omega arith

pub put_counted-requires : goal.put_counted-requires
put_counted-requires c = omega arith

pub shape_of-out : goal.shape_of-out
shape_of-out c = omega arith

pub returns : goal.returns
returns c = rw c.mark_of.ensures at (wrote-both _ _ _ _ _ _ (_ ∷ []) _ (omega arith) c.put_byte-mark.ensures c.put_counted.ensures)
