use Prim.Native.Nat.{◌≤◌}
use mathlib.Core.Bool.{true}
use mathlib.Core.Path.{◌≡◌}
use native.Mathlib.Omega.{arith}
use lib.ListN.{length, drop}
use Rattle.rules.specs.Lists.{all}
use Rattle.rules.specs.Regions.{region_good, regions_sound}
use Rattle.geometry.specs.View.{geometry_view}
use Rattle.index.specs.Steps.{entries_from}
use Rattle.regions.specs.Gathering.{JudgesRegions, region_keys, gathers-bad, gathers-from, ordered-judged}
use Rattle.regions.proofs.judge_regions.Goals as goal
use Rattle.regions.proofs.judge_regions.Goals.{In_ok-i}

-- what was gathered
gathered : (c : In_ok-i) → let a = c.args in let k = c.gather.new.keys in
    (all (region_good (geometry_view a.g)) (entries_from a.img.now a.from) ≡ true)
    × (c.in_ok-i.i ≤ length k) × (drop c.in_ok-i.i k ≡ region_keys (entries_from a.img.now a.from))
gathered c = gathers-from _ _ _ _ _ c.gather.ensures _ c.in_ok-i.was

pub order-requires : goal.order-requires
order-requires c = ((gathered (goal.at.order-requires c).In_ok-i).1, omega arith)

pub returns-in_err-i : goal.returns-in_err-i
unfolding JudgesRegions regions_sound
returns-in_err-i c = rw (c.from_residual.ensures, gathers-bad _ _ _ _ _ c.gather.ensures c.in_err-i.was)

pub returns : goal.returns
returns c =
    let h = gathered (goal.at.returns c).In_ok-i in
    rw c.then_some.ensures (ordered-judged c.args.img.now _ c.requires.0 c.args.from h.0 _ _ c.in_ok-i.i h.2 _ c.order.ensures)
