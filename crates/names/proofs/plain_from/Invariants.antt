use Rattle.names.specs.Reader.{Plain}
use Rattle.names.proofs.plain_from.Given as goal

abbrev pub invariant-loop-i : goal.invariant-loop-i
invariant-loop-i l = Plain l.s l.from l.i
