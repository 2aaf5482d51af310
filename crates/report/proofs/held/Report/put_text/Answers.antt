use Rattle.std.proofs.Common.{◌+◌, ◌≤◌, length, arith, rules}
use Rattle.rules.specs.Report.{table_lines, kind_words, count_lines, report_text}
use Rattle.text.specs.Wrote.{wrote-both, wrote-counts}
use Rattle.report.specs.Stored.{held-stored}
use Rattle.report.specs.Text.{report-fits, text-length}
use Rattle.report.proofs.held.Report.put_text.Goals as goal
use Rattle.report.proofs.held.Report.put_text.Goals.{Start}

room : (c : Start) → let r = c.args.self.now in length (table_lines kind_words r.table) + length (count_lines r.counts) ≤ 1_000
room c = let r = c.args.self.now in report-fits r.table r.counts (held-stored r.table r.stored) (search rules) r.fit

pub put_table-end-requires : goal.put_table-end-requires
put_table-end-requires c = omega (arith, room (goal.at.put_table-end-requires c).Start)

pub put_counts-requires : goal.put_counts-requires
put_counts-requires c = omega (arith, room (goal.at.put_counts-requires c).Start)

pub returns : goal.returns
unfolding report_text
returns c =
    let n = room (goal.at.returns c).Start in
    let w = wrote-both _ _ _ _ _ _ _ _ (omega arith) c.put_table-end.ensures c.put_counts.ensures in
    record {
      wrote = w;
      lent = wrote-counts _ _ _ _ (omega (arith, text-length c.args.self.now.table c.args.self.now.counts)) w;
    }
