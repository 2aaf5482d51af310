-- A fresh geometry whose reserved count its field cannot hold is not good.
use Rattle.std.specs.Prelude.{ℕ, ◌^◌, ◌≤◌, ◌≡◌, refl, Bool, true, false, ℤ}
use Rattle.std.proofs.Common.{arith}
use Rattle.rules.specs.Editions.{Edition}
use Rattle.rules.specs.SuperBlock.{geometry_good}
use Rattle.rules.specs.SuperBlock.Laws.{geometry-good, good-fit}
use Rattle.rules.specs.Writing.{fresh_geometry}

pub reserved-wide : (ed : Edition) (n b reserved : ℕ) (z : ℤ) → n ≤ 16_777_216 → 2 ^ 32 ≤ reserved → geometry_good n (fresh_geometry ed n b reserved z) ≡ false
unfolding fresh_geometry
reserved-wide ed n b reserved z short wide = go (geometry_good n (fresh_geometry ed n b reserved z)) refl
  where
    go : (t : Bool) → geometry_good n (fresh_geometry ed n b reserved z) ≡ t → t ≡ false
    go true e = absurd (omega (arith, (good-fit n (fresh_geometry ed n b reserved z) (geometry-good n (fresh_geometry ed n b reserved z) e) short).reserved-fit))
    go false e = refl
