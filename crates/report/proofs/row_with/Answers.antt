use Rattle.std.proofs.Common.{rules, refl}
use Rattle.report.specs.Rows.{row-plus}
use Rattle.report.proofs.row_with.Goals as goal

pub returns : goal.returns
returns c = row-plus _ (search rules) _ _ _ _ _ _ refl refl refl
