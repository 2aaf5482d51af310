use mathlib.Core.Path.{◌≡◌}
use lib.ListN.{length}
use Rattle.index.specs.View.{SumsFrom}
use Rattle.index.specs.Steps.{Walks}
use Rattle.erasing.specs.Reclaim.{Clears}
use Rattle.erasing.proofs.clear_deleted.Given as goal

abbrev pub invariant-loop-h : goal.invariant-loop-h
invariant-loop-h l = Walks l.img l.c × Clears l.initial.img l.initial.c l.img l.c × (length l.img ≡ length l.initial.img) × SumsFrom l.img l.sums l.c

abbrev pub decreases-loop-h : goal.decreases-loop-h
decreases-loop-h l = l.c.left
