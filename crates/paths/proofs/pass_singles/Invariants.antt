use Rattle.paths.specs.Searching.{Over}
use Rattle.paths.proofs.pass_singles.Given as goal

abbrev pub invariant-loop-c : goal.invariant-loop-c
invariant-loop-c l = Over l.img l.what l.path l.initial.c l.initial.n l.c l.n

abbrev pub decreases-loop-c : goal.decreases-loop-c
decreases-loop-c l = l.c.left
