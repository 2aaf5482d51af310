use Rattle.std.proofs.Common.{rules, sym, ap, ◌∙◌}
use Rattle.rules.specs.Report.{verdict_number}
use Rattle.judging.specs.View.{judged_view}
use Rattle.report.proofs.refusal_of.Goals as goal

pub returns-in-Err : goal.returns-in-Err
unfolding verdict_number judged_view
returns-in-Err c s = c.from.ensures ∙ sym (ap (λ j. verdict_number (judged_view s j)) c.in-Err.is)

pub returns-in-Ok : goal.returns-in-Ok
unfolding verdict_number judged_view
returns-in-Ok c s = search rules
