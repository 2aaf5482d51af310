use native.Mathlib.Omega.{arith}
use Rattle.std.proofs.lemmas.Grind.{common_steps}
use Rattle.geometry.proofs.is_product.Goals as goal

pub returns : goal.returns
returns c = grind (arith, common_steps)
