use native.Mathlib.Omega.{arith}
use borrow.Author.Tests.{leb-true}
use Rattle.judging.proofs.has_few.Goals as goal

pub returns : goal.returns
returns c = λ e. omega (arith, c.slots_in.ensures, leb-true c.slots_in.result 512 e)
