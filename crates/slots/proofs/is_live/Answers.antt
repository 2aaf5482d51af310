use native.Mathlib.Omega.{arith}
use Rattle.std.proofs.lemmas.Bool.Decides.{nat_tests}
use Rattle.rules.specs.Index.{live_type, directory_type, file_type}
use Rattle.slots.proofs.is_live.Goals as goal

pub returns-in-17 : goal.returns-in-17
unfolding live_type directory_type file_type
returns-in-17 c = grind (arith, nat_tests)

pub returns-in_default : goal.returns-in_default
unfolding live_type directory_type file_type
returns-in_default c = grind (arith, nat_tests)

pub returns-in_default-2 : goal.returns-in_default-2
unfolding live_type directory_type file_type
returns-in_default-2 c = grind (arith, nat_tests)
