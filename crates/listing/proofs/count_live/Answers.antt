use Prim.Native.Nat.{◌+◌}
use mathlib.Core.Path.{◌≡◌}
use native.Mathlib.Omega.{arith}
use lib.ListN.{length}
use Rattle.rules.specs.Lists.{only}
use Rattle.rules.specs.Paths.{is_live}
use Rattle.index.specs.Steps.{Told, Step, entries_from, sums-step}
use Rattle.listing.specs.Lines.{live_end, live-next}
use Rattle.listing.proofs.count_live.Goals as goal
use Rattle.listing.proofs.count_live.Goals.{After-live_one-live, In-Some}

pub loop-h-init : goal.loop-h-init
loop-h-init c = let p = c.requires in (p.0, omega arith, omega arith, p.1)

pub next_entry-requires : goal.next_entry-requires
next_entry-requires c = (c.loop-h.invariant.0, c.loop-h.invariant.3)

pub returns : goal.returns
unfolding Told
returns c = omega (arith, live_end _ c.in_default.ensures, c.loop-h.invariant.1)

step : (c : In-Some) → Step c.args.img.now c.loop-h.c c.in-Some.h c.in-Some.rest
unfolding Told
step c = c.in-Some.ensures

-- what is left, one entry further
rest : (c : After-live_one-live) → let s = c.args.img.now in
    length (only is_live (entries_from s c.loop-h.c)) ≡ c.live_one-live.result + length (only is_live (entries_from s c.in-Some.rest))
rest c = omega (arith, live-next _ _ _ (step (goal.at.After-live_one-live c).In-Some).entries, c.live_one-live.ensures.0 c.args.img.now)

pub live_one-live-requires : goal.live_one-live-requires
live_one-live-requires c = tt

pub overflow_add-live : goal.overflow_add-live
overflow_add-live c =
    record { fits = omega (arith, c.loop-h.invariant.2, c.requires.0.inside.numbers, c.live_one-live.ensures.1, (step (goal.at.overflow_add-live c).In-Some).less) }

pub loop-h-smaller : goal.loop-h-smaller
loop-h-smaller c = (step (goal.at.loop-h-smaller c).In-Some).less

pub loop-h-preserved : goal.loop-h-preserved
loop-h-preserved c =
    let l = c.loop-h in
    ((step (goal.at.loop-h-preserved c).In-Some).walks, omega (arith, rest c, l.invariant.1), omega (arith, l.invariant.2, c.live_one-live.ensures.1, (step (goal.at.loop-h-preserved c).In-Some).less), sums-step _ _ l.c l.invariant.3 _ _ (step (goal.at.loop-h-preserved c).In-Some))
