-- What the code asks of a geometry, and what a good one gives.
use Rattle.std.specs.Prelude.{ℕ, ◌+◌, ◌*◌, ◌≤◌, ◌<◌, ◌≡◌, true, ◌&&◌, ltb, leb}
use Rattle.std.proofs.Common.{arith, mul-le-mul, leb-true, ltb-true}
use Rattle.rules.specs.Lists.Laws.{and-true}
use Rattle.rules.specs.Regions.{within_data}
use Rattle.rules.specs.Index.{Entry}
use Rattle.rules.specs.SuperBlock.{Geometry as Rules, block_length, data_end}
use Rattle.rules.specs.SuperBlock.Laws.{GoodGeometry, block-low, areas-fit}
use Rattle.geometry.specs.declared.Geometry.{Geometry}
use Rattle.geometry.specs.View.{geometry_view}

-- no product of blocks and bytes per block passes 64 bits, and the ends of regions fit in their keys
pub record Bounded (g : Geometry) : Type 0 where
  pub field : g.block_field ≤ 5
  pub area : g.reserved + g.data_blocks ≤ 65_536

pub good-bounded : (n : ℕ) (g : Geometry) → GoodGeometry n (geometry_view g) → n ≤ 16_777_216 → Bounded g
unfolding data_end
good-bounded n g good h =
    let b = block-low n (geometry_view g) good in
    let d : data_end (geometry_view g) * 256 ≤ data_end (geometry_view g) * block_length (geometry_view g) = mul-le-mul (omega arith) b in
    record { field = good.field-high; area = omega (arith, areas-fit n (geometry_view g) good) }

pub within-true : (g : Rules) (e : Entry) → within_data g e ≡ true → (e.start < e.end) × (e.end ≤ data_end g)
unfolding within_data
within-true g e h =
    let p = and-true (leb g.reserved e.start && ltb e.start e.end) _ h in
    (ltb-true _ _ (and-true (leb g.reserved e.start) _ p.0).1, leb-true _ _ p.1)
