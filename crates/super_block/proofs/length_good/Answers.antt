use native.Mathlib.Omega.{arith}
use Rattle.std.proofs.lemmas.Grind.{common_steps}
use Rattle.rules.specs.SuperBlock.{length_good}
use Rattle.super_block.proofs.length_good.Goals as goal

pub returns : goal.returns
unfolding length_good
returns c = grind (arith, common_steps)
