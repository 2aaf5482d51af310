use mathlib.Core.Path.{sym, ap, ◌∙◌}
use native.Mathlib.Omega.{arith}
use Rattle.std.proofs.lemmas.Result.{err_from_is_err_and}
use Rattle.rules.specs.Refusals.Laws.{judge-refused}
use Rattle.super_block.specs.View.{super_view, SuperGood, super-good}
use Rattle.planning.specs.Planned.{Planned, planned-refused}
use Rattle.planning.proofs.plan_create.Goals as goal
use Rattle.planning.proofs.plan_create.Goals.{In_ok-g}

here : (c : In_ok-g) → SuperGood c.args.img.now c.in_ok-g.g
here c = super-good _ _ _ c.judge_super.ensures c.in_ok-g.was

pub plan_with-requires : goal.plan_with-requires
plan_with-requires c = (here (goal.at.plan_with-requires c).In_ok-g, omega (arith, c.has_few.ensures c.if-has_few.true), omega arith)

pub plan_with-requires-2 : goal.plan_with-requires-2
plan_with-requires-2 c = (here (goal.at.plan_with-requires-2 c).In_ok-g, omega arith, omega arith)

pub returns-in_err-g : goal.returns-in_err-g
unfolding Planned
returns-in_err-g c =
    let p = err_from_is_err_and c.from_residual.result c.from_residual.ensures.1 in
    rw (p.1, p.2) (planned-refused _ _ _ _ _ (judge-refused _ (sym c.judge_super.ensures ∙ ap super_view c.in_err-g.was)))
