use Rattle.std.proofs.Common.{◌≡◌, length, arith}
use Rattle.text.specs.Wrote.{wrote-both, wrote_as}
use Rattle.report.specs.Stored.{held-stored}
use Rattle.report.specs.Text.{table-text, table-length}
use Rattle.report.proofs.held.Report.put_table.Goals as goal
use Rattle.report.proofs.held.Report.put_table.Goals.{Start}

long : (c : Start) → length c.args.self.now.table ≡ 6
long c = (held-stored _ c.args.self.now.stored).long

pub put_upper-middle-requires : goal.put_upper-middle-requires
put_upper-middle-requires c = omega (arith, table-length c.args.self.now.table (long (goal.at.put_upper-middle-requires c).Start))

pub put_lower-requires : goal.put_lower-requires
put_lower-requires c = omega (arith, table-length c.args.self.now.table (long (goal.at.put_lower-requires c).Start))

pub returns : goal.returns
returns c =
    let n = table-length c.args.self.now.table (long (goal.at.returns c).Start) in
    wrote_as _ _ _ _ _ _ (table-text c.args.self.now.table (long (goal.at.returns c).Start)) (wrote-both _ _ _ _ _ _ _ _ (omega arith) c.put_upper-middle.ensures c.put_lower.ensures)
