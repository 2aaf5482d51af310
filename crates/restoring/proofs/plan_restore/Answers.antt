use Rattle.std.proofs.lemmas.Result.{err_from_is_err_and}
use Rattle.rules.specs.Writing.Laws.{restore-refused}
use Rattle.judging.specs.View.{refused_says, good-says}
use Rattle.retyping.specs.Planned.{RetypePlanned}
use Rattle.restoring.proofs.plan_restore.Goals as goal

pub plan_entry-requires : goal.plan_entry-requires
plan_entry-requires c = good-says _ _ c.judge.ensures _ c.in_ok-g.was

pub returns-in_err-g : goal.returns-in_err-g
unfolding RetypePlanned
returns-in_err-g c =
    let p = err_from_is_err_and c.from_residual.result c.from_residual.ensures.1 in
    rw (p.1, p.2) (restore-refused _ _ (refused_says _ _ c.judge.ensures _ c.in_err-g.was) _)
