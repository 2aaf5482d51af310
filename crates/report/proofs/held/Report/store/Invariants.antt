use Rattle.std.proofs.Common.{◌*◌, take}
use Rattle.rules.specs.Text.{joined}
use Rattle.text.specs.Wrote.{Wrote}
use Rattle.report.proofs.held.Report.store.Given as goal

-- The rows so far stand at the start.
abbrev pub invariant-loop-k : goal.invariant-loop-k
invariant-loop-k l = Wrote l.initial.numbers 0 (joined (take l.k l.self.table)) l.numbers (3 * l.k)
