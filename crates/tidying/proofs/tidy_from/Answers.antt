use mathlib.Core.Path.{refl}
use native.Mathlib.Omega.{arith}
use Rattle.tidying.specs.Tidied.{tidies-none, tidies-all, tidies-more, step_room, step-walks, step-sums}
use Rattle.tidying.proofs.tidy_from.Goals as goal

pub loop-c-init : goal.loop-c-init
loop-c-init c = let p = c.requires in (p.0, tidies-none _ _, refl, p.1)

pub further-requires : goal.further-requires
further-requires c = let i = c.loop-c.invariant in (i.0, c.loop-c-test.true, i.3)

pub tidy_spot-requires : goal.tidy_spot-requires
tidy_spot-requires c =
    let l = c.loop-c in
    step_room _ l.c l.invariant.0 c.loop-c-test.true _ _ c.further.ensures _ refl

pub loop-c-smaller : goal.loop-c-smaller
loop-c-smaller c = c.further.ensures.less

pub loop-c-preserved : goal.loop-c-preserved
loop-c-preserved c =
    let l = c.loop-c in
    let m = c.loop-c-test.true in
    let o = c.further.ensures in
    let t = c.tidy_spot in
    (step-walks _ l.c l.invariant.0 m _ _ o _ t.ensures, tidies-more _ l.c l.invariant.0 m _ _ o _ t.ensures _ _ l.invariant.1, omega (arith, l.invariant.2, t.auto), step-sums _ l.c l.invariant.0 m _ _ o _ t.ensures _ l.invariant.3)

pub shape_of-img : goal.shape_of-img
shape_of-img c = c.loop-c.invariant.2

pub returns : goal.returns
returns c = let l = c.loop-c in tidies-all _ _ _ l.c l.invariant.1 (omega arith)
