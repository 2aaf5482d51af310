use Prim.Native.Nat.{◌+◌, ◌*◌, ◌-◌}
use mathlib.Core.Path.{◌≡◌, ◌∙◌}
use native.Mathlib.Omega.{arith}
use Rattle.sums.proofs.slot_sum.Goals as goal

pub returns : goal.returns
returns c =
    let i = c.index-start.result in
    let p : i ≡ c.args.at.0 + 64 * c.args.i = omega (arith, c.index-start.ensures, c.after_slots-slot.ensures) in
    let n : c.index-end.result - i ≡ 64 = omega (arith, c.index-end.ensures, c.after_slots.ensures, c.index-start.ensures) in
    (c.sum_of.ensures ∙ rw (n, p), omega (arith, c.sum_of.ensures))
