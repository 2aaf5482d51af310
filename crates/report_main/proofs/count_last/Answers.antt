use Rattle.std.proofs.Common.{arith}
use Rattle.report_main.specs.Files.{counting-next}
use Rattle.report_main.proofs.count_last.Goals as goal

pub returns-then-is_last : goal.returns-then-is_last
returns-then-is_last g c b counting = counting-next _ 0 b _ _ _ (omega (arith, c.is_last.ensures.used c.if-is_last.true)) counting c.count_file.ensures
