use mathlib.Core.List.{[], ◌∷◌}
use mathlib.Core.Path.{◌≡◌}
use native.Mathlib.Omega.{arith}
use lib.ListN.{length}
use Rattle.rules.specs.Dates.{two_digits}
use Rattle.rules.specs.Dates.Text.{length-two_digits}
use Rattle.text.specs.Wrote.{wrote-both}
use Rattle.text.proofs.put_two.Goals as goal

-- Two writings are one; two digits take two bytes where the number has no more. Assumes nothing.
pub put_byte-end-requires : goal.put_byte-end-requires
put_byte-end-requires c = omega arith

pub put_number-requires : goal.put_number-requires
unfolding two_digits
put_number-requires c = omega (arith, length-two_digits c.args.n c.requires.1)

pub shape_of-out : goal.shape_of-out
shape_of-out c = omega arith

pub returns : goal.returns
unfolding two_digits
returns c =
    let l : length (two_digits c.args.n) ≡ 2 = length-two_digits c.args.n c.requires.1 in
    let w = wrote-both _ _ _ _ _ _ (c.args.mark ∷ []) (two_digits c.args.n) (omega arith) c.put_byte-end.ensures c.put_number.ensures in
    (w, omega arith)
