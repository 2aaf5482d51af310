use mathlib.Core.Path.{sym}
use Rattle.std.proofs.lemmas.Result.{err_from_is_err_and}
use Rattle.judging.specs.View.{judged_view}
use Rattle.judging.specs.Keeping.{kept-refused, kept-good}
use Rattle.judging.proofs.judge_with.Goals as goal

pub returns-in_err-g : goal.returns-in_err-g
unfolding judged_view
returns-in_err-g g c =
    let p = err_from_is_err_and c.from_residual.result c.from_residual.ensures.1 in
    rw (p.1, p.2) (sym (kept-refused _ _ _ _ c.judge_index.ensures _ c.in_err-g.was))

pub returns : goal.returns
unfolding judged_view
returns g c = sym (kept-good _ _ _ _ c.judge_index.ensures _ _ c.in_ok-g.was).0
