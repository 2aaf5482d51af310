use Rattle.std.proofs.Common.{arith}
use Rattle.text.specs.Wrote.{wrote-both}
use Rattle.report.specs.Text.{halves-length}
use Rattle.report.proofs.held.Report.put_upper.Goals as goal

pub put_row-deleted-requires : goal.put_row-deleted-requires
put_row-deleted-requires c = omega (arith, halves-length c.args.self.now.table)

pub put_row-directory-requires : goal.put_row-directory-requires
put_row-directory-requires c = omega (arith, halves-length c.args.self.now.table)

pub put_row-requires : goal.put_row-requires
put_row-requires c = omega (arith, halves-length c.args.self.now.table)

pub returns : goal.returns
returns c =
    let n = halves-length c.args.self.now.table in
    wrote-both _ _ _ _ _ _ _ _ (omega arith) c.put_row-deleted.ensures (wrote-both _ _ _ _ _ _ _ _ (omega arith) c.put_row-directory.ensures c.put_row.ensures)
