use mathlib.Core.Path.{sym, ap, ◌∙◌}
use Rattle.std.proofs.lemmas.Result.{err_from_is_err_and}
use Rattle.rules.specs.Outcome.{done}
use Rattle.rules.specs.Writing.Laws.{reclaim-refused, reclaim-later}
use Rattle.contracts.specs.Promises.{written_as}
use Rattle.judging.specs.View.{Opened, refused_says, good-says}
use Rattle.erasing.specs.Reclaim.{reclaim-written}
use Rattle.erasing.proofs.reclaim.Goals as goal
use Rattle.erasing.proofs.reclaim.Goals.{In_ok-g}

-- the volume that opens
opened : (c : In_ok-g) → Opened c.args.img.now c.in_ok-g.g
opened c = good-says _ _ c.judge.ensures _ c.in_ok-g.was

pub returns-then-not-is_writable : goal.returns-then-not-is_writable
returns-then-not-is_writable c = sym (reclaim-later _ _ (opened (goal.at.returns-then-not-is_writable c).In_ok-g) (sym c.is_writable.ensures ∙ c.if-not-is_writable.true) _)

pub write_reclaimed-requires : goal.write_reclaimed-requires
write_reclaimed-requires c = opened (goal.at.write_reclaimed-requires c).In_ok-g

pub returns-in_err-g : goal.returns-in_err-g
returns-in_err-g c =
    let p = err_from_is_err_and c.from_residual.result c.from_residual.ensures.1 in
    rw (p.1, p.2) (sym (reclaim-refused _ _ (refused_says _ _ c.judge.ensures _ c.in_err-g.was) _))

pub returns : goal.returns
unfolding done
returns c =
    ap (written_as 0) c.write_reclaimed.ensures
    ∙ sym (reclaim-written _ _ (opened (goal.at.returns c).In_ok-g) (sym c.is_writable.ensures ∙ c.if-not-is_writable.false) _)
