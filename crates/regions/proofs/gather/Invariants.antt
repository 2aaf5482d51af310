use mathlib.Core.Path.{◌≡◌}
use lib.ListN.{length}
use Rattle.index.specs.View.{SumsFrom}
use Rattle.regions.specs.Gathering.{Gathering}
use Rattle.regions.proofs.gather.Given as goal

abbrev pub invariant-loop-e : goal.invariant-loop-e
invariant-loop-e l = (length l.keys ≡ length l.initial.keys) × Gathering l.img l.g l.initial.c l.keys l.c l.i × SumsFrom l.img l.sums l.c

abbrev pub decreases-loop-e : goal.decreases-loop-e
decreases-loop-e l = l.c.left
