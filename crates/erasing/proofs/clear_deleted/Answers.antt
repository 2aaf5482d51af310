use mathlib.Core.Path.{refl}
use native.Mathlib.Omega.{arith}
use Rattle.index.specs.Steps.{Told, Step}
use Rattle.erasing.specs.Reclaim.{clears-none, clears-all, clears-more, step-walks, step-sums}
use Rattle.erasing.proofs.clear_deleted.Goals as goal
use Rattle.erasing.proofs.clear_deleted.Goals.{In-Some}

pub loop-h-init : goal.loop-h-init
loop-h-init c = let p = c.requires in (p.0, clears-none _ _, refl, p.1)

pub next_entry-requires : goal.next_entry-requires
next_entry-requires c = let i = c.loop-h.invariant in (i.0, i.3)

pub shape_of-img : goal.shape_of-img
shape_of-img c = c.loop-h.invariant.2

pub returns : goal.returns
unfolding Told
returns c = clears-all _ _ _ _ c.loop-h.invariant.1 c.in_default.ensures

step : (c : In-Some) → let l = c.loop-h in Step l.img l.c c.in-Some.h c.in-Some.rest
unfolding Told
step c = c.in-Some.ensures

pub clear_head-requires : goal.clear_head-requires
clear_head-requires c = (step (goal.at.clear_head-requires c).In-Some).head

pub loop-h-smaller : goal.loop-h-smaller
loop-h-smaller c = (step (goal.at.loop-h-smaller c).In-Some).less

pub loop-h-preserved : goal.loop-h-preserved
loop-h-preserved c =
    let t = c.clear_head in
    let l = c.loop-h in
    (step-walks _ _ _ _ (step (goal.at.loop-h-preserved c).In-Some) _ t.ensures, clears-more _ _ _ _ (step (goal.at.loop-h-preserved c).In-Some) _ t.ensures _ _ l.invariant.1, omega (arith, l.invariant.2, t.auto), step-sums _ _ _ _ (step (goal.at.loop-h-preserved c).In-Some) _ t.ensures _ l.invariant.3)
