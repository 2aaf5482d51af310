use Prim.Native.Nat.{◌+◌, ◌*◌}
use mathlib.Core.Path.{◌≡◌, sym, ◌∙◌}
use mathlib.Core.Bool.{true, ◌&&◌}
use lib.Dec.{eqb, leb}
use Rattle.geometry.specs.View.{geometry_view, areas_fit}
use Rattle.rules.specs.SuperBlock.{block_length, geometry_good}
use native.Mathlib.Omega.{arith}
use native.Mathlib.Nat.{mul-le-mul}
use Rattle.std.proofs.lemmas.Grind.{common_steps}
use Rattle.geometry.proofs.Geometry.is_good.Goals as goal
use Rattle.geometry.proofs.Geometry.is_good.Goals.{Joined-is_product, Joined-reserved-len-ge-LEAST_RESERVED, then-is_product, else-is_product, then-reserved-len-ge-LEAST_RESERVED, else-reserved-len-ge-LEAST_RESERVED}

pub overflow_mul-reserved : goal.overflow_mul-reserved
overflow_mul-reserved c =
    omega (arith, mul-le-mul {n₁ = c.from-reserved.result} {m₁ = c.block_length-len.result} {n₂ = 4294967295} {m₂ = 4096} (omega arith) c.block_length-len.ensures.2)

pub returns-then-not-contains : goal.returns-then-not-contains
unfolding geometry_good
returns-then-not-contains c = grind (arith, common_steps)

-- the tests that were joined, as far as each place
first : (c : Joined-is_product) → c.if-is_product.value ≡ (c.is_product.result && leb 512 (c.from-reserved.result * c.block_length-len.result))
first c =
    elim c.if-is_product.branch [
      | then-is_product w ↦ rw (w.value-is, w.if-is_product.true)
      | else-is_product w ↦ rw (w.value-is, w.if-is_product.false)
    ]

both : (c : Joined-reserved-len-ge-LEAST_RESERVED) → c.if-reserved-len-ge-LEAST_RESERVED.value ≡ (c.if-is_product.value && leb (c.from-reserved.result + 2) c.args.self.total)
both c =
    elim c.if-reserved-len-ge-LEAST_RESERVED.branch [
      | then-reserved-len-ge-LEAST_RESERVED w ↦ rw (w.value-is, w.if-reserved-len-ge-LEAST_RESERVED.true)
      | else-reserved-len-ge-LEAST_RESERVED w ↦ rw (w.value-is, w.if-reserved-len-ge-LEAST_RESERVED.false)
    ]

before-areas : (c : Joined-reserved-len-ge-LEAST_RESERVED) → let g = c.args.self in
    (leb 1 g.block_field && leb g.block_field 5 && eqb (g.total * block_length (geometry_view g)) c.args.n && leb 512 (g.reserved * block_length (geometry_view g)) && leb (g.reserved + 2) g.total) ≡ c.if-reserved-len-ge-LEAST_RESERVED.value
before-areas c =
    let g = c.args.self in
    let f : (leb 1 g.block_field && leb g.block_field 5) ≡ true = grind (arith, common_steps) in
    rw (f, ← c.block_length-len.ensures.0, ← c.from-reserved.ensures, ← c.is_product.ensures, ← first (goal.at.Joined-reserved-len-ge-LEAST_RESERVED c).Joined-is_product) (sym (both c))

pub returns-then-reserved-self : goal.returns-then-reserved-self
unfolding geometry_good areas_fit
returns-then-reserved-self c =
    rw (before-areas (goal.at.returns-then-reserved-self c).Joined-reserved-len-ge-LEAST_RESERVED ∙ c.if-reserved-self.true) c.areas_fit.ensures

pub returns-else-reserved-self : goal.returns-else-reserved-self
unfolding geometry_good
returns-else-reserved-self c =
    rw (before-areas (goal.at.returns-else-reserved-self c).Joined-reserved-len-ge-LEAST_RESERVED, c.if-reserved-self.false)
