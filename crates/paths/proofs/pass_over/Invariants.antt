use Rattle.paths.specs.Searching.{Over}
use Rattle.paths.proofs.pass_over.Given as goal

abbrev pub invariant-loop-at : goal.invariant-loop-at
invariant-loop-at l = Over l.img l.what l.path l.initial.c l.initial.n l.c l.n

abbrev pub decreases-loop-at : goal.decreases-loop-at
decreases-loop-at l = l.c.left
