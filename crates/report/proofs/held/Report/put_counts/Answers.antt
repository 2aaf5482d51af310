use Rattle.std.proofs.Common.{rules, ◌≡◌, ◌+◌, ◌<◌, length, get_or, drop, sym, arith}
use Rattle.rules.specs.Text.{text, decimal}
use Rattle.rules.specs.Report.{pairs, count_lines}
use Rattle.text.specs.Wrote.{wrote-both, wrote_as}
use Rattle.report.specs.Text.{counts-text, counts-length}
use Rattle.report.proofs.held.Report.put_counts.Goals as goal
use Rattle.report.proofs.held.Report.put_counts.Goals.{Start}

some : (c : Start) → 0 < length c.args.self.now.counts
some c = search rules

room : (c : Start) → let cs = c.args.self.now.counts in length (count_lines cs) ≡ length (pairs 1 (drop 1 cs)) + length (decimal (get_or cs 0 0)) + 16
room c = counts-length _ (some c)

pub put_bytes-pairs-requires : goal.put_bytes-pairs-requires
put_bytes-pairs-requires c = omega (arith, room (goal.at.put_bytes-pairs-requires c).Start)

pub put_pairs-unread-requires : goal.put_pairs-unread-requires
put_pairs-unread-requires c = omega (arith, room (goal.at.put_pairs-unread-requires c).Start)

pub put_counted-end-requires : goal.put_counted-end-requires
put_counted-end-requires c = omega (arith, room (goal.at.put_counted-end-requires c).Start)

pub put_byte-requires : goal.put_byte-requires
put_byte-requires c = omega (arith, room (goal.at.put_byte-requires c).Start)

pub returns : goal.returns
returns c =
    let n = room (goal.at.returns c).Start in
    wrote_as _ _ _ _ _ _ (sym (counts-text c.args.self.now.counts (some (goal.at.returns c).Start)))
    (wrote-both _ _ _ _ _ _ (text "refused") _ (omega arith) c.put_bytes-pairs.ensures
    (wrote-both _ _ _ _ _ _ _ _ (omega arith) c.put_pairs-unread.ensures
    (wrote-both _ _ _ _ _ _ _ (text "\n") (omega arith) c.put_counted-end.ensures c.put_byte.ensures)))
