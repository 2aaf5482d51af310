use Rattle.std.proofs.Common.{inl, inr}
use mathlib.Core.Path.{sym, ap, ◌∙◌}
use native.Mathlib.Nat.{zero-add}
use lib.ListN.{length}
use Rattle.rules.specs.Report.{report_in, report_text}
use Rattle.rules.specs.Outcome.{done}
use Rattle.contracts.specs.Promises.Laws.{content-denied, content-outcome, report-few, report-short, report-done}
use Rattle.sfs.proofs.sfs_report_text.Goals as goal

pub returns-then-report-lt-NUMBERS : goal.returns-then-report-lt-NUMBERS
returns-then-report-lt-NUMBERS c =
    let e = c.too_short.ensures in
    content-denied _ _ _ 18 e.0 e.1
    ∙ elim c.then-report-lt-NUMBERS.either [ inl h ↦ sym (report-few _ _ h) | inr h ↦ sym (report-short _ _ h.1) ]

pub returns : goal.returns
returns c =
    let ns = c.args.report.now in
    let e = c.written.ensures in
    let w = c.put_numbers-n.ensures in
    content-outcome ns _ _ (length (report_text (report_in ns))) e.0 (e.1 ∙ w.1 ∙ zero-add _)
    ∙ ap (done (length (report_text (report_in ns))) ns) w.0 ∙ sym (report-done _ _ c.if-report-lt-NUMBERS.false c.if-out-lt-ROOM.false)

pub written-requires : goal.written-requires
written-requires c = tt
