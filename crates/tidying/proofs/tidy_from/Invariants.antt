use mathlib.Core.Path.{◌≡◌}
use lib.ListN.{length}
use Rattle.index.specs.View.{SumsFrom}
use Rattle.index.specs.Steps.{Walks}
use Rattle.tidying.specs.Tidied.{Tidies}
use Rattle.tidying.proofs.tidy_from.Given as goal

abbrev pub invariant-loop-c : goal.invariant-loop-c
invariant-loop-c l = Walks l.img l.c × Tidies l.initial.img l.initial.c l.img l.c × (length l.img ≡ length l.initial.img) × SumsFrom l.img l.sums l.c

abbrev pub decreases-loop-c : goal.decreases-loop-c
decreases-loop-c l = l.c.left
