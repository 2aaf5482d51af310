use Prim.Native.Nat.{◌≤◌}
use native.Mathlib.Omega.{arith}
use Rattle.std.proofs.lemmas.Grind.{common_steps}
use Rattle.blocks.proofs.Powers.{too_small, too_large, no_power, right, FieldRight}
use Rattle.blocks.proofs.block_field.Goals as goal
use Rattle.blocks.proofs.block_field.Goals.{Else-n-ne1}

-- a size between the two ends with one set bit
size : (c : Else-n-ne1) → FieldRight c.args.n
size c =
    let a : 256 ≤ c.args.n = grind (arith, common_steps) in
    let b : c.args.n ≤ 4096 = grind (arith, common_steps) in
    right c.args.n a b c.if-n-ne1.false

pub returns-then-not-contains : goal.returns-then-not-contains
returns-then-not-contains c = grind (arith, common_steps, too_small, too_large)

pub returns-then-n-ne1 : goal.returns-then-n-ne1
returns-then-n-ne1 c = no_power c.args.n c.if-n-ne1.true

pub overflow_sub-result : goal.overflow_sub-result
unfolding FieldRight
overflow_sub-result c = (size (goal.at.overflow_sub-result c).Else-n-ne1).0

pub returns : goal.returns
unfolding FieldRight
returns c = (size (goal.at.returns c).Else-n-ne1).2
