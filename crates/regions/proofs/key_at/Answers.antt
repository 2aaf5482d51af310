use Prim.Native.Nat.{◌≤◌, ◌<◌}
use native.Mathlib.Omega.{arith}
use Rattle.ordering.specs.Regions.{extent_key}
use Rattle.regions.proofs.key_at.Goals as goal
use Rattle.regions.proofs.key_at.Goals.{After-number-2}

-- the end of a region is less than 131,072
below : (c : After-number-2) → (c.number.result < 65_536) × (c.number-2.result ≤ 65_536)
below c =
    let p = c.requires in
    (omega (arith, c.number.ensures, p.some, p.below), omega (arith, c.number-2.ensures, p.below))

pub overflow_mul-result : goal.overflow_mul-result
overflow_mul-result c = let p = c.requires in record { fits = omega (arith, c.number.ensures, p.some, p.below) }

pub returns : goal.returns
unfolding extent_key
returns c = rw (c.number.ensures, c.number-2.ensures)

pub overflow_add-result : goal.overflow_add-result
overflow_add-result c = record { fits = omega (arith, below c) }

pub overflow_mul-result-2 : goal.overflow_mul-result-2
overflow_mul-result-2 c = record { fits = omega (arith, below c) }
