use mathlib.Core.Path.{refl, sym, ◌∙◌}
use Rattle.index.specs.Steps.{Told, Step, sums-step}
use Rattle.index.specs.Turns.{all_end, all-stop, all-next}
use Rattle.regions.proofs.all_good.Goals as goal
use Rattle.regions.proofs.all_good.Goals.{In-Some}

pub returns : goal.returns
unfolding Told
returns c = all_end _ _ c.in_default.ensures ∙ c.loop-e.invariant.1

step : (c : In-Some) → Step c.args.img.now c.loop-e.c c.in-Some.e c.in-Some.rest
unfolding Told
step c = c.in-Some.ensures

pub returns-then-not-region_good : goal.returns-then-not-region_good
returns-then-not-region_good c =
    all-stop _ _ _ (step (goal.at.returns-then-not-region_good c).In-Some).entries _ (sym (c.region_good.ensures _) ∙ c.if-not-region_good.true) ∙ c.loop-e.invariant.1

pub loop-e-preserved : goal.loop-e-preserved
loop-e-preserved c =
    let l = c.loop-e in
    ((step (goal.at.loop-e-preserved c).In-Some).walks, all-next _ _ _ (step (goal.at.loop-e-preserved c).In-Some).entries _ (sym (c.region_good.ensures _) ∙ c.if-not-region_good.false) ∙ l.invariant.1, sums-step _ _ l.c l.invariant.2 _ _ (step (goal.at.loop-e-preserved c).In-Some))

pub loop-e-init : goal.loop-e-init
loop-e-init c = let p = c.requires in (p.1, refl, p.2)

pub next_entry-requires : goal.next_entry-requires
next_entry-requires c = (c.loop-e.invariant.0, c.loop-e.invariant.2)

pub loop-e-smaller : goal.loop-e-smaller
loop-e-smaller c = (step (goal.at.loop-e-smaller c).In-Some).less
