use mathlib.Core.Path.{sym, ◌∙◌}
use native.Mathlib.Omega.{arith}
use Rattle.editions.specs.View.{edition_view}
use Rattle.index.specs.View.{sums-behind}
use Rattle.paths.specs.View.{OfRuns}
use Rattle.paths.specs.Entries.{sought-entry}
use Rattle.paths.specs.Searching.{Over, Goes, Ends, goes_on, goes-over, over_none, over_runs, over-room, over-next, over-over, strikes}
use Rattle.paths.proofs.pass_over.Goals as goal
use Rattle.paths.proofs.pass_over.Goals.{After-further-next, In-On}

pub loop-at-init : goal.loop-at-init
loop-at-init c = let i = c.requires.0.inside in over_none _ _ _ _ _ c.requires.0 (omega (arith, i.fits, i.short))

-- over the slots that stand by themselves, and so far in all
passed : (c : In-On) → let a = c.args in
    Over a.img.now a.what a.path.now c.loop-at.c c.loop-at.n c.in-On.at c.in-On.looked
passed c = goes_on _ _ _ _ _ _ c.pass_singles-way.ensures _ _ c.in-On.is

over : (c : In-On) → let a = c.args in
    Over a.img.now a.what a.path.now a.from 0 c.in-On.at c.in-On.looked
over c = over-over _ _ _ _ _ _ _ _ _ c.loop-at.invariant (passed c)

runs : (c : After-further-next) → let a = c.args in OfRuns (edition_view a.from.edition) a.what
runs c = c.requires.1

pub returns-in_default : goal.returns-in_default
unfolding Ends
returns-in_default c =
    record {
      goes = goes-over _ _ _ _ _ _ _ c.loop-at.invariant _ c.pass_singles-way.ensures;
      ended = rw c.in_default.is tt;
    }

pub returns-then-at-eq0 : goal.returns-then-at-eq0
unfolding Goes Ends
returns-then-at-eq0 c =
    record {
      goes = over (goal.at.returns-then-at-eq0 c).In-On;
      ended = c.if-at-eq0.true;
    }

pub further-next-requires : goal.further-next-requires
further-next-requires c =
    let o = over (goal.at.further-next-requires c).In-On in
    (o.walks, omega (arith, c.if-at-eq0.false), sums-behind _ _ _ c.requires.2 _ o.behind)

pub passes-tried-requires : goal.passes-tried-requires
passes-tried-requires c =
    let here = over_runs _ _ _ _ _ (runs (goal.at.passes-tried-requires c).After-further-next) _ _ (over (goal.at.passes-tried-requires c).In-On) _ _ c.further-next.ensures in
    (here, λ t. (c.further-next.ensures.entry (sought-entry _ _ _ here t)).spot)

pub overflow_add-n : goal.overflow_add-n
overflow_add-n c =
    record { fits = over-room _ _ _ _ _ (runs (goal.at.overflow_add-n c).After-further-next) _ _ (over (goal.at.overflow_add-n c).In-On) _ _ c.further-next.ensures _ c.passes-tried.ensures.counted }

pub returns-then-tried : goal.returns-then-tried
unfolding Goes Ends
returns-then-tried c =
    record {
      goes = strikes _ _ _ _ _ (runs (goal.at.returns-then-tried c).After-further-next) _ _ (over (goal.at.returns-then-tried c).In-On) _ _ c.further-next.ensures _ c.passes-tried.ensures.counted (sym c.passes-tried.ensures.same_value ∙ c.if-tried.true);
      ended = tt;
    }

pub loop-at-preserved : goal.loop-at-preserved
loop-at-preserved c =
    over-next _ _ _ _ _ (runs (goal.at.loop-at-preserved c).After-further-next) _ _ (over (goal.at.loop-at-preserved c).In-On) _ _ c.further-next.ensures _ c.passes-tried.ensures.counted (sym c.passes-tried.ensures.same_value ∙ c.if-tried.false)

pub pass_singles-way-requires : goal.pass_singles-way-requires
pass_singles-way-requires c = (c.loop-at.invariant.walks, rw c.loop-at.invariant.behind.edition c.requires.1, c.loop-at.invariant.few)

pub loop-at-smaller : goal.loop-at-smaller
loop-at-smaller c = omega (arith, c.further-next.ensures.less, (passed (goal.at.loop-at-smaller c).In-On).onward)
