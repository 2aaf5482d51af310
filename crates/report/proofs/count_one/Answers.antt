use Rattle.std.proofs.Common.{refl, arith}
use Rattle.report.specs.Rows.{one_more_lem}
use Rattle.report.proofs.count_one.Goals as goal

pub returns : goal.returns
returns c = one_more_lem _ _ _ (omega (arith, c.requires)) refl
