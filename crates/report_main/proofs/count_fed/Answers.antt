use Rattle.std.proofs.Common.{ap, is_some}
use Rattle.report_main.specs.Files.{fed-line}
use Rattle.report_main.proofs.count_fed.Goals as goal

pub returns-in-Some : goal.returns-in-Some
returns-in-Some g c left from n b gone counting = fed-line left from n _ gone b _ counting (ap is_some c.in-Some.is) _ _ c.count_file.ensures
