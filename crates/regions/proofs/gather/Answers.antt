use mathlib.Core.Path.{◌≡◌, refl, sym, ◌∙◌}
use native.Mathlib.Omega.{arith}
use mathlib.Core.Bool.{true}
use lib.ListN.{length}
use Rattle.rules.specs.Regions.{region_good}
use Rattle.geometry.specs.View.{geometry_view}
use Rattle.slots.specs.View.{head_view}
use Rattle.index.specs.Steps.{Told, Step, sums-step}
use Rattle.index.specs.Turns.{all-stop}
use Rattle.regions.specs.Gathering.{Gathers, found-small, gather_none, gather-end, gather-next}
use Rattle.regions.proofs.gather.Goals as goal
use Rattle.regions.proofs.gather.Goals.{Else-not-region_good, In-Some}

pub returns : goal.returns
unfolding Told
returns c = gather-end _ _ _ _ _ _ c.loop-e.invariant.1 c.in_default.ensures

step : (c : In-Some) → Step c.args.img.now c.loop-e.c c.in-Some.e c.in-Some.rest
unfolding Told
step c = c.in-Some.ensures

good : (c : Else-not-region_good) → let a = c.args in
    region_good (geometry_view a.g) (head_view a.img.now c.in-Some.e) ≡ true
good c = sym (c.region_good.ensures _) ∙ c.if-not-region_good.false

pub returns-then-not-region_good : goal.returns-then-not-region_good
unfolding Gathers
returns-then-not-region_good c =
    sym c.loop-e.invariant.1.good ∙ sym (all-stop _ _ _ (step (goal.at.returns-then-not-region_good c).In-Some).entries _ (sym (c.region_good.ensures _) ∙ c.if-not-region_good.true))

pub put_region-i-requires : goal.put_region-i-requires
put_region-i-requires c =
    (omega (arith, (step (goal.at.put_region-i-requires c).In-Some).less, c.loop-e.invariant.1.room), c.loop-e.invariant.1.inside, found-small _ _ c.requires.0 _ _ _ (step (goal.at.put_region-i-requires c).In-Some) (good (goal.at.put_region-i-requires c).Else-not-region_good))

pub loop-e-preserved : goal.loop-e-preserved
loop-e-preserved c =
    let same : length c.put_region-i.new.keys ≡ length c.loop-e.keys = omega arith in
    (same ∙ c.loop-e.invariant.0, gather-next _ _ _ _ _ _ c.loop-e.invariant.1 _ _ (step (goal.at.loop-e-preserved c).In-Some) (good (goal.at.loop-e-preserved c).Else-not-region_good) _ _ same (c.put_region-i.ensures.by_index _) c.put_region-i.ensures.place.0 c.put_region-i.ensures.place.1, sums-step _ _ c.loop-e.c c.loop-e.invariant.2 _ _ (step (goal.at.loop-e-preserved c).In-Some))

pub loop-e-init : goal.loop-e-init
loop-e-init c = let p = c.requires in (refl, gather_none _ _ _ _ p.1 p.2, p.3)

pub next_entry-requires : goal.next_entry-requires
next_entry-requires c = (c.loop-e.invariant.1.walks, c.loop-e.invariant.2)

pub loop-e-smaller : goal.loop-e-smaller
loop-e-smaller c = (step (goal.at.loop-e-smaller c).In-Some).less
