use mathlib.Core.Path.{sym}
use native.Mathlib.Omega.{arith}
use Rattle.std.proofs.lemmas.List.{length-map}
use Rattle.rules.specs.RegionTable.{untabled}
use Rattle.region_table.specs.View.{extent_view, filled-err, filled-ok}
use Rattle.region_table.specs.Answers.{tabled-last}
use Rattle.region_table.proofs.regions_in_table.Goals as goal

pub returns-in-Err : goal.returns-in-Err
unfolding untabled
returns-in-Err c =
    let f = filled-err _ _ _ _ c.fill.ensures _ c.in-Err.is in
    rw (f.0, c.from.ensures) (sym f.1)

pub put_in_order-requires : goal.put_in_order-requires
put_in_order-requires c = (filled-ok _ _ _ _ c.fill.ensures _ c.in-Ok.is).orderable

pub neighbours_apart-requires : goal.neighbours_apart-requires
neighbours_apart-requires c =
    let f = filled-ok _ _ _ _ c.fill.ensures _ c.in-Ok.is in
    omega (arith, f.orderable.fits, length-map c.fill.new.table extent_view, c.put_in_order.auto.table)

pub returns-in-Ok : goal.returns-in-Ok
returns-in-Ok c =
    tabled-last _ _ _ _ _ _ _ (filled-ok _ _ _ _ c.fill.ensures _ c.in-Ok.is) c.put_in_order.ensures c.neighbours_apart.ensures c.apart_number-answer.ensures
