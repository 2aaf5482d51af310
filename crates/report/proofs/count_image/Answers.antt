use Rattle.std.proofs.Common.{ap, ◌∙◌}
use Rattle.rules.specs.Fields.{splice}
use Rattle.rules.specs.Report.{Report, with_image, report_numbers, verdict_number}
use Rattle.report.specs.Numbers.{image-short, image-counted}
use Rattle.report.proofs.count_image.Goals as goal

pub returns-then-report-lt-NUMBERS : goal.returns-then-report-lt-NUMBERS
returns-then-report-lt-NUMBERS c = rw c.from.ensures (image-short _ _ c.if-report-lt-NUMBERS.true)

pub returns : goal.returns
returns c =
    let img = c.args.img.now in
    let ns = c.args.report.now in
    image-counted img ns c.if-report-lt-NUMBERS.false _ (c.refusal_of.ensures img ∙ ap verdict_number c.judge_read-judged.ensures) _
    (c.store.ensures ∙ ap (λ (r : Report). splice ns 0 (report_numbers r)) (c.add_judged.ensures ∙ ap (with_image img) c.of-counted.ensures))
