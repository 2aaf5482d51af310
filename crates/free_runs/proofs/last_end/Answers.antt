use Prim.Native.Nat.{max}
use mathlib.Core.Path.{◌≡◌}
use borrow.Author.Rules.{rules}
use native.Mathlib.Omega.{arith}
use Rattle.rules.specs.Lists.{All}
use Rattle.slots.specs.View.{head_view}
use Rattle.ordering.specs.Regions.{Small}
use Rattle.index.specs.Steps.{Told, Step, entries_from, sums-step}
use Rattle.free_runs.specs.View.{is_gone}
use Rattle.free_runs.specs.Sums.{least-end, least-next, small-stored, small-next}
use Rattle.free_runs.proofs.last_end.Goals as goal
use Rattle.free_runs.proofs.last_end.Goals.{In-Some}

pub loop-e-init : goal.loop-e-init
loop-e-init c = let p = c.requires in (p.0, p.1, omega (arith, c.at-last.ensures), p.2)

pub returns : goal.returns
unfolding Told
returns c = omega (arith, least-end (is_gone c.args.gone) _ c.in_default.ensures, c.loop-e.invariant.2)

step : (c : In-Some) → Step c.args.img.now c.loop-e.c c.in-Some.e c.in-Some.rest
unfolding Told
step c = c.in-Some.ensures

small : (c : In-Some) → let s = c.args.img.now in
    Small (head_view s c.in-Some.e) × All Small (entries_from s c.in-Some.rest)
small c = small-next _ _ _ (step c).entries c.loop-e.invariant.1

pub loop-e-preserved : goal.loop-e-preserved
loop-e-preserved c =
    let h : c.max-last.result.0 ≡ max c.loop-e.last.0 c.kept_end.result.0 = search rules in
    ((step (goal.at.loop-e-preserved c).In-Some).walks, (small (goal.at.loop-e-preserved c).In-Some).1, omega (arith, least-next (is_gone c.args.gone) _ _ _ (step (goal.at.loop-e-preserved c).In-Some).entries, h, c.kept_end.ensures c.args.img.now, c.loop-e.invariant.2), sums-step _ _ c.loop-e.c c.loop-e.invariant.3 _ _ (step (goal.at.loop-e-preserved c).In-Some))

pub next_entry-requires : goal.next_entry-requires
next_entry-requires c = (c.loop-e.invariant.0, c.loop-e.invariant.3)

pub kept_end-requires : goal.kept_end-requires
kept_end-requires c = small-stored _ _ (small c).0

pub loop-e-smaller : goal.loop-e-smaller
loop-e-smaller c = (step (goal.at.loop-e-smaller c).In-Some).less
