use native.Mathlib.Omega.{arith}
use Rattle.std.proofs.lemmas.Bool.Decides.{nat_tests}
use Rattle.rules.specs.Index.{stray_type}
use Rattle.slots.proofs.is_stray.Goals as goal

pub returns-then-kind-ge-STRAY : goal.returns-then-kind-ge-STRAY
unfolding stray_type
returns-then-kind-ge-STRAY c = grind (arith, nat_tests)

pub returns-in-1 : goal.returns-in-1
unfolding stray_type
returns-in-1 c = grind (arith, nat_tests)

pub returns-in_default : goal.returns-in_default
unfolding stray_type
returns-in_default c = grind (arith, nat_tests)

pub returns-in_default-2 : goal.returns-in_default-2
unfolding stray_type
returns-in_default-2 c = grind (arith, nat_tests)
