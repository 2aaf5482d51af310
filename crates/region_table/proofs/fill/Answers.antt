use mathlib.Core.Path.{refl}
use Rattle.std.proofs.lemmas.List.{length-map}
use Rattle.std.proofs.lemmas.Result.{err_from_is_err_and}
use Rattle.region_table.specs.View.{TableFilled, prepared-err, prepared-ok}
use Rattle.region_table.specs.Answers.{filled-laid}
use Rattle.region_table.proofs.fill.Goals as goal

pub returns-in_err-held : goal.returns-in_err-held
unfolding TableFilled
returns-in_err-held c =
    let e = err_from_is_err_and c.from_residual.result c.from_residual.ensures.1 in
    rw (e.1, e.2) (refl, prepared-err _ _ _ _ c.prepare.ensures _ c.in_err-held.was _ (simp length-map))

pub lay-requires : goal.lay-requires
lay-requires c =
    let p = prepared-ok _ _ _ _ c.prepare.ensures _ c.in_ok-held.was in
    (p.fits, p.few)

pub returns : goal.returns
unfolding TableFilled
returns c = filled-laid _ _ _ _ _ (simp length-map (prepared-ok _ _ _ _ c.prepare.ensures _ c.in_ok-held.was)) c.prepare.auto.keys c.lay.ensures
