use Rattle.std.proofs.lemmas.Result.{err_from_is_err_and}
use Rattle.rules.specs.Writing.Laws.{deletable-refused}
use Rattle.judging.specs.View.{refused_says, good-says}
use Rattle.erasing.specs.Delete.{DeletePlanned}
use Rattle.erasing.proofs.plan_delete.Goals as goal

pub plan_entry-requires : goal.plan_entry-requires
plan_entry-requires c = good-says _ _ c.judge.ensures _ c.in_ok-g.was

pub returns-in_err-g : goal.returns-in_err-g
unfolding DeletePlanned
returns-in_err-g c =
    let p = err_from_is_err_and c.from_residual.result c.from_residual.ensures.1 in
    rw (p.1, p.2) (deletable-refused _ _ (refused_says _ _ c.judge.ensures _ c.in_err-g.was) _)
