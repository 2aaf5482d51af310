use Rattle.std.proofs.Common.{arith}
use Rattle.text.specs.Wrote.{wrote-both}
use Rattle.report.specs.Text.{halves-length}
use Rattle.report.proofs.held.Report.put_lower.Goals as goal

pub put_row-unusable-requires : goal.put_row-unusable-requires
put_row-unusable-requires c = omega (arith, halves-length c.args.self.now.table)

pub put_row-unused-requires : goal.put_row-unused-requires
put_row-unused-requires c = omega (arith, halves-length c.args.self.now.table)

pub put_row-requires : goal.put_row-requires
put_row-requires c = omega (arith, halves-length c.args.self.now.table)

pub returns : goal.returns
returns c =
    let n = halves-length c.args.self.now.table in
    wrote-both _ _ _ _ _ _ _ _ (omega arith) c.put_row-unusable.ensures (wrote-both _ _ _ _ _ _ _ _ (omega arith) c.put_row-unused.ensures c.put_row.ensures)
