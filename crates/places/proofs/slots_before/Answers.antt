use mathlib.Core.Path.{sym, ◌∙◌}
use native.Mathlib.Omega.{arith}
use Rattle.index.specs.Steps.{Stops, Arrives, sums-arrives}
use Rattle.places.specs.Cut.{unmet-first, unmet-end, unmet-next, unmet-stop}
use Rattle.places.proofs.slots_before.Goals as goal
use Rattle.places.proofs.slots_before.Goals.{In-Some}

pub returns : goal.returns
unfolding Stops
returns c = unmet-end _ _ _ _ c.loop-here.invariant.0 c.in_default.ensures

step : (c : In-Some) → Arrives c.args.img.now c.loop-here.c c.in-Some.field-0.here c.in-Some.field-0.rest
unfolding Stops
step c = c.in-Some.ensures

pub is_above-requires : goal.is_above-requires
is_above-requires c = (step c).spot

pub slots_to-requires : goal.slots_to-requires
slots_to-requires c = omega (arith, (step (goal.at.slots_to-requires c).In-Some).ahead, c.loop-here.invariant.0.ahead)

pub returns-then-is_above : goal.returns-then-is_above
returns-then-is_above c =
    unmet-stop _ _ _ _ c.loop-here.invariant.0 _ _ (step (goal.at.returns-then-is_above c).In-Some) (sym c.is_above.ensures ∙ c.if-is_above.true) _ c.slots_to.ensures

pub loop-here-preserved : goal.loop-here-preserved
loop-here-preserved c =
    let i = c.loop-here.invariant in
    (unmet-next _ _ _ _ i.0 _ _ (step (goal.at.loop-here-preserved c).In-Some) (sym c.is_above.ensures ∙ c.if-is_above.false), sums-arrives _ _ _ i.1 _ _ (step (goal.at.loop-here-preserved c).In-Some))

pub loop-here-init : goal.loop-here-init
loop-here-init c = let p = c.requires in (unmet-first _ _ _ p.0, p.1)

pub next_spot-requires : goal.next_spot-requires
next_spot-requires c = (c.loop-here.invariant.0.walks, c.loop-here.invariant.1)

pub loop-here-smaller : goal.loop-here-smaller
loop-here-smaller c = (step (goal.at.loop-here-smaller c).In-Some).less
