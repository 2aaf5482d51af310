use Rattle.std.proofs.Common.{◌≤◌, length}
use Rattle.report.specs.View.{report_view}
use Rattle.report_main.specs.Files.{Counting}
use Rattle.report_main.proofs.count_named.Given as goal

-- One source was counted for each line so far.
abbrev pub invariant-loop-turn : goal.invariant-loop-turn
invariant-loop-turn g l = record {
  counting : Counting l.state.left (report_view l.initial.report) (report_view l.report);
  kept : l.state.length ≤ 256;
  piece : l.left.end ≤ length l.piece;
}
