use Rattle.std.proofs.Common.{refl}
use Rattle.rules.specs.Report.{no_report, sums_of, sums_of_kind}
use Rattle.rules.specs.Lists.{only, sum}
use Rattle.report.proofs.held.Report.new.Goals as goal

pub returns : goal.returns
unfolding no_report sums_of sums_of_kind only sum
returns c = refl
