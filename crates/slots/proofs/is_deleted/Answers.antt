use native.Mathlib.Omega.{arith}
use Rattle.std.proofs.lemmas.Bool.Decides.{nat_tests}
use Rattle.rules.specs.Index.{deleted_type}
use Rattle.slots.proofs.is_deleted.Goals as goal

pub returns-in-25 : goal.returns-in-25
unfolding deleted_type
returns-in-25 c = grind (arith, nat_tests)

pub returns-in_default : goal.returns-in_default
unfolding deleted_type
returns-in_default c = grind (arith, nat_tests)

pub returns-in_default-2 : goal.returns-in_default-2
unfolding deleted_type
returns-in_default-2 c = grind (arith, nat_tests)
