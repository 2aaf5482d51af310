use mathlib.Core.Path.{◌≡◌, refl, ◌∙◌}
use native.Mathlib.Omega.{arith}
use lib.ListN.{length}
use Rattle.index.specs.Steps.{Stops, Arrives, sums-arrives}
use Rattle.path_rules.specs.Gathering.{gather_none, gather-end, gather-next}
use Rattle.path_rules.proofs.gather.Goals as goal
use Rattle.path_rules.proofs.gather.Goals.{In-Some}

pub returns : goal.returns
unfolding Stops
returns c = gather-end _ _ _ _ _ c.loop-here.invariant.1 c.in_default.ensures

step : (c : In-Some) → Arrives c.args.img.now c.loop-here.c c.in-Some.field-0.here c.in-Some.field-0.rest
unfolding Stops
step c = c.in-Some.ensures

pub put_live-i-requires : goal.put_live-i-requires
put_live-i-requires c =
    (omega (arith, (step (goal.at.put_live-i-requires c).In-Some).less, c.loop-here.invariant.1.room), c.loop-here.invariant.1.within, omega (arith, (step (goal.at.put_live-i-requires c).In-Some).ahead, c.loop-here.invariant.1.ahead))

pub loop-here-preserved : goal.loop-here-preserved
loop-here-preserved c =
    let same : length c.put_live-i.new.keys ≡ length c.loop-here.keys = omega arith in
    (same ∙ c.loop-here.invariant.0, gather-next _ _ _ _ _ c.loop-here.invariant.1 _ _ (step (goal.at.loop-here-preserved c).In-Some) c.requires.2 _ _ same c.put_live-i.ensures.keys_after c.put_live-i.ensures.place.0 c.put_live-i.ensures.place.1, sums-arrives _ _ _ c.loop-here.invariant.2 _ _ (step (goal.at.loop-here-preserved c).In-Some))

pub loop-here-init : goal.loop-here-init
loop-here-init c = let p = c.requires in (refl, gather_none _ _ _ p.0 p.1, p.3)

pub next_spot-requires : goal.next_spot-requires
next_spot-requires c = (c.loop-here.invariant.1.walks, c.loop-here.invariant.2)

pub loop-here-smaller : goal.loop-here-smaller
loop-here-smaller c = (step (goal.at.loop-here-smaller c).In-Some).less
