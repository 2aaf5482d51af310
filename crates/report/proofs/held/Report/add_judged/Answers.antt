use Rattle.std.proofs.Common.{ap, ap₂, ◌∙◌, arith}
use Rattle.rules.specs.Report.{one_more}
use Rattle.judging.specs.View.{read-refused, read-good, read_opened}
use Rattle.report.specs.Adding.{image-refused, image-opened, refused-low}
use Rattle.report.specs.Stored.{held-stored}
use Rattle.report.specs.View.{as_report}
use Rattle.report.proofs.held.Report.add_judged.Goals as goal

pub count_one-requires : goal.count_one-requires
count_one-requires c = omega (arith, c.from.ensures, refused-low _ _ (read-refused _ _ c.requires _ c.in-Err.is))

pub count_volume-requires : goal.count_volume-requires
count_volume-requires c = read_opened _ _ c.requires _ c.in-Ok.is

pub returns-in-Err : goal.returns-in-Err
returns-in-Err c =
    let r = c.args.self.now in
    let e = c.count_one.ensures in
    ap₂ as_report e.table (e.counts ∙ ap (λ n. one_more n r.counts) c.from.ensures) ∙ image-refused _ _ _ _ (held-stored r.table r.stored) (read-refused _ _ c.requires _ c.in-Err.is)

pub returns-in-Ok : goal.returns-in-Ok
returns-in-Ok c =
    let e = c.count_volume.ensures in
    ap₂ as_report e.table e.counts ∙ image-opened _ _ _ _ (read-good _ _ c.requires _ c.in-Ok.is)
