use Rattle.std.proofs.lemmas.Result.{err_from_is_err_and}
use Rattle.std.specs.Prelude.{Ok}
use Rattle.rules.specs.Writing.{restore_of}
use Rattle.retyping.specs.Planned.{RetypePlanned, planned-fits, planned-refused}
use Rattle.restoring.proofs.restore.Goals as goal
use Rattle.restoring.proofs.restore.Goals.{In_ok-plan}

kept : (c : In_ok-plan) → RetypePlanned c.args.img.now (restore_of c.args.img.now c.args.path.now) (Ok c.in_ok-plan.plan)
kept c = rw c.in_ok-plan.was at c.plan_restore.ensures

pub put-requires : goal.put-requires
put-requires c = planned-fits _ _ _ (kept (goal.at.put-requires c).In_ok-plan)

pub returns-in_err-plan : goal.returns-in_err-plan
returns-in_err-plan c =
    let p = err_from_is_err_and c.from_residual.result c.from_residual.ensures.1 in
    rw (p.1, p.2) (planned-refused _ _ _ c.plan_restore.ensures _ _ c.in_err-plan.was)

pub returns : goal.returns
returns c = c.put.ensures _ (kept (goal.at.returns c).In_ok-plan)
