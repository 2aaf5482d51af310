use Rattle.std.proofs.Common.{ap₂}
use Rattle.rules.specs.Report.{with_source}
use Rattle.report.specs.View.{as_report}
use Rattle.report.proofs.held.Report.count_unread.Goals as goal

pub returns : goal.returns
unfolding with_source
returns c = ap₂ as_report c.count_one.ensures.table c.count_one.ensures.counts
