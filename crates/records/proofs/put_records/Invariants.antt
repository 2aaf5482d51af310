use mathlib.Core.Path.{◌≡◌}
use lib.ListN.{length}
use Prim.Native.Nat.{◌-◌}
use Rattle.index.specs.View.{SumsFrom, Behind}
use Rattle.index.specs.Steps.{Walks}
use Rattle.records.specs.View.{Putting}
use Rattle.records.proofs.put_records.Given as goal

abbrev pub invariant-loop-h : goal.invariant-loop-h
invariant-loop-h l =
    Walks l.img l.c × SumsFrom l.img l.sums l.c × Behind l.initial.c l.c × Putting l.img l.initial.c l.slot.0 l.initial.out l.out l.c l.count l.end l.next.0 × (length l.out ≡ length l.initial.out)

abbrev pub decreases-loop-h : goal.decreases-loop-h
decreases-loop-h l = l.room - l.end
