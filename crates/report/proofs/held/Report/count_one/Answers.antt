use Rattle.std.proofs.Common.{refl, arith}
use Rattle.report.specs.Rows.{one_more_lem}
use Rattle.report.proofs.held.Report.count_one.Goals as goal

pub returns-clause-counts : goal.returns-clause-counts
returns-clause-counts c = one_more_lem _ _ _ (omega (arith, c.requires)) refl
