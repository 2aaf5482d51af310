use Prim.Native.Nat.{◌+◌}
use mathlib.Core.Path.{◌≡◌}
use Rattle.rules.specs.Lists.{All}
use Rattle.rules.specs.Regions.{held_blocks}
use Rattle.ordering.specs.Regions.{Small}
use Rattle.index.specs.View.{SumsFrom}
use Rattle.index.specs.Steps.{Walks, entries_from}
use Rattle.free_runs.proofs.held_blocks.Given as goal

-- The blocks so far with those of the entries from the cursor on are those of all.
abbrev pub invariant-loop-e : goal.invariant-loop-e
invariant-loop-e l = Walks l.img l.c × All Small (entries_from l.img l.c) × (l.held + held_blocks (entries_from l.img l.c) ≡ held_blocks (entries_from l.img l.initial.c)) × SumsFrom l.img l.sums l.c

abbrev pub decreases-loop-e : goal.decreases-loop-e
decreases-loop-e l = l.c.left
