use mathlib.Core.Path.{sym, ap, ◌∙◌}
use Rattle.std.proofs.lemmas.Result.{err_from_is_err_and}
use Rattle.rules.specs.Fields.{signed_of}
use Rattle.rules.specs.Outcome.{done}
use Rattle.rules.specs.Writing.{wiped, delete_of}
use Rattle.contracts.specs.Promises.{written_as}
use Rattle.erasing.specs.Delete.{DeleteFound, plan-refused, plan-entry}
use Rattle.erasing.proofs.delete.Goals as goal
use Rattle.erasing.proofs.delete.Goals.{In_ok-g}

going : (c : In_ok-g) → let a = c.args in DeleteFound a.img.now a.path.now c.in_ok-g.g c.in_ok-g.h
going c = plan-entry _ _ _ c.plan_delete.ensures _ _ c.in_ok-g.was

pub write_wiped-requires : goal.write_wiped-requires
write_wiped-requires c = let p = going (goal.at.write_wiped-requires c).In_ok-g in (p.opened, p.room, p.region)

pub returns-in_err-g : goal.returns-in_err-g
unfolding delete_of
returns-in_err-g c =
    let a = c.args in
    let p = err_from_is_err_and c.from_residual.result c.from_residual.ensures.1 in
    rw (p.1, p.2) (sym (plan-refused _ _ _ c.plan_delete.ensures _ c.in_err-g.was (wiped a.path.now (signed_of a.stamp))))

pub returns : goal.returns
unfolding done delete_of
returns c =
    let a = c.args in
    let p = going (goal.at.returns c).In_ok-g in
    ap (written_as 0) (c.write_wiped.ensures a.path.now p.lives) ∙ sym (p.outcome (wiped a.path.now (signed_of a.stamp)))
