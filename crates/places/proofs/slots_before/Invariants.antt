use Rattle.index.specs.View.{SumsFrom}
use Rattle.places.specs.Cut.{Unmet}
use Rattle.places.proofs.slots_before.Given as goal

abbrev pub invariant-loop-here : goal.invariant-loop-here
invariant-loop-here l = Unmet l.img l.from l.path l.c × SumsFrom l.img l.sums l.c

abbrev pub decreases-loop-here : goal.decreases-loop-here
decreases-loop-here l = l.c.left
