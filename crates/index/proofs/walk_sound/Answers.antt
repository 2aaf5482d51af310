use mathlib.Core.Path.{refl, sym, ◌∙◌}
use native.Mathlib.Omega.{arith}
use lib.ListN.{drop}
use Rattle.index.specs.View.{sums-past, past-inside, walk-stops, walk-turns, walk_ends}
use Rattle.index.proofs.walk_sound.Goals as goal

pub loop-c-init : goal.loop-c-init
loop-c-init c = let p = c.requires in (p.0, refl, p.1)

pub slot_step-requires : goal.slot_step-requires
slot_step-requires c = let i = c.loop-c.invariant in (c.loop-c-test.true, i.0.fits, i.2)

pub returns-in_default : goal.returns-in_default
returns-in_default c =
    let l = c.loop-c in
    sym (walk-stops _ l.c.left l.c.slot.0 (drop l.c.at.0 _) c.loop-c-test.true c.in_default.ensures) ∙ l.invariant.1

pub past-c-requires : goal.past-c-requires
past-c-requires c = let i = c.loop-c.invariant.0 in (c.in-Some.ensures.2, omega (arith, i.fits, i.short), i.numbers)

pub loop-c-smaller : goal.loop-c-smaller
loop-c-smaller c = omega (arith, c.past-c.ensures.left, c.in-Some.ensures)

pub loop-c-preserved : goal.loop-c-preserved
loop-c-preserved c =
    let l = c.loop-c in
    let n = c.in-Some.ensures in
    (past-inside _ l.c _ _ c.past-c.ensures l.invariant.0 n.2, walk-turns _ l.c _ _ c.past-c.ensures c.loop-c-test.true n.0 (λ z. absurd (omega (arith, z, n))) ∙ l.invariant.1, sums-past _ _ l.c l.invariant.2 _ _ c.past-c.ensures n.2)

pub returns : goal.returns
returns c = let l = c.loop-c in walk_ends _ l.c (omega arith) ∙ l.invariant.1
