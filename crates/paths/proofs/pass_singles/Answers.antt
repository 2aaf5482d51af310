use mathlib.Core.Path.{sym, ◌∙◌}
use native.Mathlib.Omega.{arith}
use Rattle.editions.specs.View.{edition_view}
use Rattle.paths.specs.View.{OfRuns}
use Rattle.paths.specs.Entries.{sought-entry}
use Rattle.paths.specs.Searching.{Goes, over_none, over_runs, over-room, over-next, strikes}
use Rattle.paths.proofs.pass_singles.Goals as goal
use Rattle.paths.proofs.pass_singles.Goals.{After-single-next}

runs : (c : After-single-next) → let a = c.args in OfRuns (edition_view a.from.edition) a.what
runs c = c.requires.1

pub is_single-requires : goal.is_single-requires
is_single-requires c = omega (arith, c.loop-c.invariant.walks.inside.fits, c.loop-c-test.true)

pub returns-then-not-is_single : goal.returns-then-not-is_single
unfolding Goes
returns-then-not-is_single c = c.loop-c.invariant

pub single-next-requires : goal.single-next-requires
single-next-requires c = (c.loop-c.invariant.walks, c.loop-c-test.true, c.is_single.ensures (c.if-not-is_single.false) _)

pub passes-tried-requires : goal.passes-tried-requires
passes-tried-requires c =
    let here = over_runs _ _ _ _ _ (runs (goal.at.passes-tried-requires c).After-single-next) _ _ c.loop-c.invariant _ _ c.single-next.ensures in
    (here, λ t. (c.single-next.ensures.entry (sought-entry _ _ _ here t)).spot)

pub overflow_add-n : goal.overflow_add-n
overflow_add-n c =
    record { fits = over-room _ _ _ _ _ (runs (goal.at.overflow_add-n c).After-single-next) _ _ c.loop-c.invariant _ _ c.single-next.ensures _ c.passes-tried.ensures.counted }

pub returns-then-tried : goal.returns-then-tried
unfolding Goes
returns-then-tried c =
    strikes _ _ _ _ _ (runs (goal.at.returns-then-tried c).After-single-next) _ _ c.loop-c.invariant _ _ c.single-next.ensures _ c.passes-tried.ensures.counted (sym c.passes-tried.ensures.same_value ∙ c.if-tried.true)

pub loop-c-preserved : goal.loop-c-preserved
loop-c-preserved c =
    over-next _ _ _ _ _ (runs (goal.at.loop-c-preserved c).After-single-next) _ _ c.loop-c.invariant _ _ c.single-next.ensures _ c.passes-tried.ensures.counted (sym c.passes-tried.ensures.same_value ∙ c.if-tried.false)

pub returns : goal.returns
unfolding Goes
returns c = c.loop-c.invariant

pub loop-c-init : goal.loop-c-init
loop-c-init c = over_none _ _ _ _ _ c.requires.0 c.requires.2

pub loop-c-smaller : goal.loop-c-smaller
loop-c-smaller c = c.single-next.ensures.less
