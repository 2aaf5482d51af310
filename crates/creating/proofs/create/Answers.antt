use mathlib.Core.Path.{sym}
use Rattle.std.proofs.lemmas.Result.{err_from_is_err_and}
use Rattle.rules.specs.Outcome.{done}
use Rattle.creating.specs.Plans.{plan-refused, plan-sound, plan-fits, plan-done}
use Rattle.creating.proofs.create.Goals as goal

pub tidy-requires : goal.tidy-requires
tidy-requires c = plan-sound _ _ _ _ _ c.plan_create.ensures _ c.in_ok-p.was

pub place-requires : goal.place-requires
place-requires c = plan-fits _ _ _ _ _ c.plan_create.ensures _ c.in_ok-p.was _ c.tidy.ensures

pub returns-in_err-p : goal.returns-in_err-p
returns-in_err-p c =
    let p = err_from_is_err_and c.from_residual.result c.from_residual.ensures.1 in
    rw (p.1, p.2) (sym (plan-refused _ _ _ _ _ c.plan_create.ensures _ c.in_err-p.was))

pub returns : goal.returns
unfolding done
returns c = plan-done _ _ _ _ _ c.plan_create.ensures _ c.in_ok-p.was _ _ c.tidy.ensures c.place.ensures
