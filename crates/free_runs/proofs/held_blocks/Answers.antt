use Prim.Native.Nat.{◌+◌}
use mathlib.Core.Path.{◌≡◌}
use native.Mathlib.Omega.{arith}
use Rattle.rules.specs.Lists.{All}
use Rattle.rules.specs.Regions.{held_blocks}
use Rattle.slots.specs.View.{head_view}
use Rattle.ordering.specs.Regions.{Small}
use Rattle.index.specs.Steps.{Told, Step, entries_from, sums-step}
use Rattle.free_runs.specs.Sums.{held-end, held_next, small-stored, small-next, held_fits}
use Rattle.free_runs.proofs.held_blocks.Goals as goal
use Rattle.free_runs.proofs.held_blocks.Goals.{After-file_blocks-held, In-Some}

pub returns : goal.returns
unfolding Told
returns c = omega (arith, held-end _ c.in_default.ensures, c.loop-e.invariant.2)

step : (c : In-Some) → Step c.args.img.now c.loop-e.c c.in-Some.e c.in-Some.rest
unfolding Told
step c = c.in-Some.ensures

small : (c : In-Some) → let s = c.args.img.now in
    Small (head_view s c.in-Some.e) × All Small (entries_from s c.in-Some.rest)
small c = small-next _ _ _ (step c).entries c.loop-e.invariant.1

-- what is held once the entry is counted, and what is left, one entry further
turn : (c : After-file_blocks-held) → let s = c.args.img.now in
    c.loop-e.held + c.file_blocks-held.result + held_blocks (entries_from s c.in-Some.rest) ≡ held_blocks (entries_from s c.args.from)
turn c =
    omega (arith, held_next _ _ _ (step (goal.at.After-file_blocks-held c).In-Some).entries, c.file_blocks-held.ensures c.args.img.now, c.loop-e.invariant.2)

pub overflow_add-held : goal.overflow_add-held
overflow_add-held c =
    let p = c.requires in
    record { fits = omega (arith, turn c, held_fits _ _ p.0 p.1) }

pub loop-e-preserved : goal.loop-e-preserved
loop-e-preserved c =
    let l = c.loop-e in
    ((step (goal.at.loop-e-preserved c).In-Some).walks, (small (goal.at.loop-e-preserved c).In-Some).1, turn c, sums-step _ _ l.c l.invariant.3 _ _ (step (goal.at.loop-e-preserved c).In-Some))

pub loop-e-init : goal.loop-e-init
loop-e-init c = let p = c.requires in (p.0, p.1, omega arith, p.2)

pub next_entry-requires : goal.next_entry-requires
next_entry-requires c = (c.loop-e.invariant.0, c.loop-e.invariant.3)

pub file_blocks-held-requires : goal.file_blocks-held-requires
file_blocks-held-requires c = small-stored _ _ (small c).0

pub loop-e-smaller : goal.loop-e-smaller
loop-e-smaller c = (step (goal.at.loop-e-smaller c).In-Some).less
