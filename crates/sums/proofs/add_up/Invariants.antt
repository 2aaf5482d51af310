use Prim.Native.Nat.{◌+◌, ◌<◌}
use mathlib.Core.Path.{◌≡◌}
use lib.ListN.{get_or}
use Rattle.sums.specs.Summed.{AddsUp}
use Rattle.sums.proofs.add_up.Given as goal

abbrev pub invariant-loop-i : goal.invariant-loop-i
invariant-loop-i l = (l.sum < 256) × (l.sum ≡ get_or l.sums (l.first + l.i) 0) × AddsUp l.img l.sums l.at.0 l.first l.i
