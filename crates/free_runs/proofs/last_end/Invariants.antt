use Prim.Native.Nat.{max}
use mathlib.Core.Path.{◌≡◌}
use Rattle.rules.specs.Lists.{All}
use Rattle.rules.specs.Writing.{least_end}
use Rattle.ordering.specs.Regions.{Small}
use Rattle.index.specs.View.{SumsFrom}
use Rattle.index.specs.Steps.{Walks, entries_from}
use Rattle.free_runs.specs.View.{staying}
use Rattle.free_runs.proofs.last_end.Given as goal

-- The latest end so far with those of the entries from the cursor on is that of all.
abbrev pub invariant-loop-e : goal.invariant-loop-e
invariant-loop-e l = Walks l.img l.c × All Small (entries_from l.img l.c) × (max l.last.0 (least_end (staying l.gone (entries_from l.img l.c))) ≡ least_end (staying l.gone (entries_from l.img l.initial.c))) × SumsFrom l.img l.sums l.c

abbrev pub decreases-loop-e : goal.decreases-loop-e
decreases-loop-e l = l.c.left
