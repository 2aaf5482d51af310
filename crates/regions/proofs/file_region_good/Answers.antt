use Prim.Native.Nat.{ℕ, ◌≤◌, ◌<◌}
use mathlib.Core.Path.{◌≡◌, sym, ◌∙◌}
use mathlib.Core.Bool.{true, false, ◌&&◌}
use mathlib.Core.List.{List, []}
use lib.Dec.{eqb}
use native.Mathlib.Omega.{arith}
use native.Mathlib.Nat.{mul-le-mul}
use Rattle.rules.specs.SuperBlock.{data_end}
use Rattle.rules.specs.Regions.{file_region_good, within_data, blocks_of}
use Rattle.geometry.specs.View.{geometry_view}
use Rattle.slots.specs.View.{head_view, end-near, end-zero}
use Rattle.regions.specs.Bounds.{within-true}
use Rattle.regions.proofs.file_region_good.Goals as goal
use Rattle.regions.proofs.file_region_good.Goals.{After-blocks_to-blocks, Else-is_empty, Else-not-within_data}

pub returns-then-is_empty : goal.returns-then-is_empty
unfolding file_region_good head_view
returns-then-is_empty c s = rw (end-zero s c.args.h, sym c.is_empty.ensures ∙ c.if-is_empty.true)

filled : (c : Else-is_empty) → let h = c.args.h in (eqb h.start.0 0 && eqb h.end.0 0 && eqb h.length 0) ≡ false
filled c = sym c.is_empty.ensures ∙ c.if-is_empty.false

pub returns-then-not-within_data : goal.returns-then-not-within_data
unfolding file_region_good head_view
returns-then-not-within_data c s = rw (end-zero s c.args.h, filled (goal.at.returns-then-not-within_data c).Else-is_empty, sym (c.within_data.ensures s) ∙ c.if-not-within_data.true)

within : (c : Else-not-within_data) (s : List ℕ) → let a = c.args in within_data (geometry_view a.g) (head_view s a.h) ≡ true
within c s = sym (c.within_data.ensures s) ∙ c.if-not-within_data.false

region : (c : Else-not-within_data) (s : List ℕ) → let a = c.args in
    (a.h.start.0 < (head_view s a.h).end) × ((head_view s a.h).end ≤ 65_536)
unfolding head_view data_end
region c s = let r = within-true _ _ (within c s) in (r.0, omega (arith, r.1, c.requires.area))

pub past_end-requires : goal.past_end-requires
past_end-requires c = omega (arith, (region (goal.at.past_end-requires c).Else-not-within_data []).1, end-near [] c.args.h)

pub blocks_to-blocks-requires : goal.blocks_to-blocks-requires
blocks_to-blocks-requires c = omega (arith, region (goal.at.blocks_to-blocks-requires c).Else-not-within_data [], c.past_end.ensures [])

few : (c : After-blocks_to-blocks) → c.blocks_to-blocks.result ≤ 65_536
few c = omega (arith, (region (goal.at.After-blocks_to-blocks c).Else-not-within_data []).1, c.past_end.ensures [], c.blocks_to-blocks.ensures)

pub overflow_mul-result : goal.overflow_mul-result
overflow_mul-result c = record { fits = omega (arith, mul-le-mul (few (goal.at.overflow_mul-result c).After-blocks_to-blocks) c.block_length.ensures.2) }

pub returns : goal.returns
unfolding file_region_good head_view blocks_of
returns c s =
    rw (end-zero s c.args.h, filled (goal.at.returns c).Else-is_empty, within (goal.at.returns c).Else-not-within_data s, c.blocks_to-blocks.ensures, c.past_end.ensures s, c.block_length.ensures.0)
