use mathlib.Core.Path.{sym, ap, ◌∙◌}
use Rattle.std.proofs.lemmas.Result.{err_from_is_err_and}
use Rattle.rules.specs.Refusals.Laws.{judge-refused}
use Rattle.super_block.specs.View.{super_view}
use Rattle.judging.specs.View.{judged_view}
use Rattle.judging.proofs.judge.Goals as goal

pub returns-in_err-g : goal.returns-in_err-g
unfolding judged_view
returns-in_err-g c =
    let p = err_from_is_err_and c.from_residual.result c.from_residual.ensures.1 in
    rw (p.1, p.2) (sym (judge-refused _ (sym c.judge_super.ensures ∙ ap super_view c.in_err-g.was)))
