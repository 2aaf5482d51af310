use Prim.Native.Nat.{◌+◌, ◌%◌}
use mathlib.Core.Path.{◌≡◌}
use lib.ListN.{drop}
use Rattle.rules.specs.Fields.{byte_sum}
use Rattle.fields.proofs.sum_of.Given as goal

abbrev pub invariant-loop-b : goal.invariant-loop-b
invariant-loop-b l = (l.r + byte_sum (drop l.b-index l.s)) % 256 ≡ byte_sum l.s % 256
