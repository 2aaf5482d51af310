use Rattle.std.proofs.lemmas.Result.{err_from_is_err_and}
use Rattle.rules.specs.Writing.{deleted, delete_keep_of}
use Rattle.retyping.specs.Planned.{RetypePlanned}
use Rattle.erasing.specs.Delete.{plan-refused, plan-entry}
use Rattle.erasing.proofs.plan_keep.Goals as goal

pub plan_found-requires : goal.plan_found-requires
plan_found-requires c =
    let p = plan-entry _ _ _ c.plan_delete.ensures _ _ c.in_ok-g.was in
    (p.opened, p.room)

pub returns-in_err-g : goal.returns-in_err-g
unfolding RetypePlanned delete_keep_of
returns-in_err-g c =
    let p = err_from_is_err_and c.from_residual.result c.from_residual.ensures.1 in
    rw (p.1, p.2) (λ z. plan-refused _ _ _ c.plan_delete.ensures _ c.in_err-g.was (deleted z))

pub returns : goal.returns
unfolding delete_keep_of
returns c =
    let p = plan-entry _ _ _ c.plan_delete.ensures _ _ c.in_ok-g.was in
    c.plan_found.ensures _ (λ z. p.outcome (deleted z))
