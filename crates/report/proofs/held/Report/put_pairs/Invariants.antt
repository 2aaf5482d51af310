use Rattle.std.proofs.Common.{drop}
use Rattle.rules.specs.Report.{pairs}
use Rattle.text.specs.Wrote.{ToWrite}
use Rattle.report.proofs.held.Report.put_pairs.Given as goal

-- What is still to be written are the pairs of the counts from the place on.
abbrev pub invariant-loop-i : goal.invariant-loop-i
invariant-loop-i l = ToWrite l.initial.out l.at (pairs 1 (drop 1 l.self.counts)) l.out l.end (pairs l.i (drop l.i l.self.counts))
