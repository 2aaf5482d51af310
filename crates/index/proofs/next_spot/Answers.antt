use mathlib.Core.Path.{refl, sym, ◌∙◌}
use native.Mathlib.Omega.{arith}
use Rattle.index.specs.Steps.{Stops, no-more, reached-before, sums-onward}
use Rattle.index.proofs.next_spot.Goals as goal

pub returns-then-is_entry : goal.returns-then-is_entry
unfolding Stops
returns-then-is_entry c =
    let l = c.loop-c in
    reached-before _ _ l.c _ _ l.invariant.1 l.invariant.2 l.invariant.3 l.invariant.4 l.invariant.5 (c.further-next.ensures.entry (sym c.is_entry.ensures ∙ c.if-is_entry.true))

pub loop-c-preserved : goal.loop-c-preserved
loop-c-preserved c =
    let l = c.loop-c in
    let o = c.further-next.ensures in
    (o.walks, o.edition ∙ l.invariant.1, o.unused (sym c.is_entry.ensures ∙ c.if-is_entry.false) ∙ l.invariant.2, omega (arith, l.invariant.3, o.ahead), o.ends ∙ l.invariant.4, omega (arith, l.invariant.5, o.place), sums-onward _ _ l.c l.invariant.6 _ _ o)

pub returns : goal.returns
unfolding Stops
returns c = let l = c.loop-c in sym l.invariant.2 ∙ no-more _ l.c (omega arith)

pub loop-c-init : goal.loop-c-init
loop-c-init c = let p = c.requires in (p.0, refl, refl, omega arith, refl, refl, p.1)

pub further-next-requires : goal.further-next-requires
further-next-requires c = let i = c.loop-c.invariant in (i.0, c.loop-c-test.true, i.6)

pub loop-c-smaller : goal.loop-c-smaller
loop-c-smaller c = c.further-next.ensures.less
