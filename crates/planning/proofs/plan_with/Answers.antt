use Rattle.std.proofs.lemmas.Result.{err_from_is_err_and}
use Rattle.judging.specs.Keeping.{kept-refused, kept-good}
use Rattle.planning.specs.Planned.{planned-refused}
use Rattle.planning.proofs.plan_with.Goals as goal

pub plan_opened-requires : goal.plan_opened-requires
plan_opened-requires g c = kept-good _ _ _ _ c.judge_index.ensures _ _ c.in_ok-opened.was

pub returns-in_err-opened : goal.returns-in_err-opened
returns-in_err-opened g c =
    let p = err_from_is_err_and c.from_residual.result c.from_residual.ensures.1 in
    rw (p.1, p.2) (planned-refused _ _ _ _ _ (kept-refused _ _ _ _ c.judge_index.ensures _ c.in_err-opened.was))
