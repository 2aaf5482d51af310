use native.Mathlib.Omega.{arith}
use Rattle.std.proofs.lemmas.Bool.Decides.{nat_tests}
use Rattle.rules.specs.Index.{file_type}
use Rattle.slots.proofs.is_file.Goals as goal

pub returns-in-18 : goal.returns-in-18
unfolding file_type
returns-in-18 c = grind (arith, nat_tests)

pub returns-in_default : goal.returns-in_default
unfolding file_type
returns-in_default c = grind (arith, nat_tests)
