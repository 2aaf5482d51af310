use Rattle.rules.specs.SuperBlock.{index_good}
use native.Mathlib.Omega.{arith}
use borrow.Author.Tests.{le-leb}
use Rattle.std.specs.Prelude.{◌≤◌}
use Rattle.std.proofs.lemmas.Grind.{common_steps}
use Rattle.geometry.proofs.index_good.Goals as goal

pub returns-then-contains : goal.returns-then-contains
unfolding index_good
returns-then-contains c =
    let a : 128 ≤ c.args.i = grind (arith, common_steps) in
    let b : c.args.i ≤ 262_144 = grind (arith, common_steps) in
    rw (le-leb _ _ a, le-leb _ _ b)

pub returns-else-contains : goal.returns-else-contains
unfolding index_good
returns-else-contains c = grind (arith, common_steps)
