use mathlib.Core.Path.{◌≡◌}
use Prim.Native.Nat.{◌-◌, ◌≤◌, ◌<◌}
use Rattle.rules.specs.Writing.{lowest_unused}
use Rattle.index.specs.View.{items_from, SumsFrom}
use Rattle.index.specs.Steps.{Walks}
use Rattle.index.specs.Unused.{lowest_from}
use Rattle.index.proofs.lowest_unused.Given as goal

abbrev pub invariant-loop-c : goal.invariant-loop-c
invariant-loop-c l = Walks l.img l.c × (l.first.0 ≤ l.c.slot.0) × (l.c.slot.0 - l.first.0 < l.n) × (lowest_from l.n l.img l.first.0 l.c ≡ lowest_unused l.n (items_from l.img l.initial.c)) × SumsFrom l.img l.sums l.c

abbrev pub decreases-loop-c : goal.decreases-loop-c
decreases-loop-c l = l.c.left
