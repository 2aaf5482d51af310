use Prim.Native.Nat.{ℕ, zero, suc, ◌+◌, ◌/◌, ◌%◌, ◌<◌, min}
use mathlib.Core.Path.{◌≡◌, refl, sym, ◌∙◌}
use native.Mathlib.Omega.{arith}
use native.Mathlib.Nat.{div-add-mod', div-eq_of_lt-le, mod-lt}
use Rattle.rules.specs.Regions.{blocks_needed}
use Rattle.free_runs.proofs.blocks_needed.Goals as goal

-- whole blocks, and one more for a part
rounded : (len bytes : ℕ) → 0 < len → bytes / len + min 1 (bytes % len) ≡ blocks_needed len bytes
unfolding blocks_needed
rounded len bytes some = by (bytes % len) refl
  where
    by : (r : ℕ) → bytes % len ≡ r → bytes / len + min 1 r ≡ blocks_needed len bytes
    by zero z =
        let none : bytes / len + min 1 zero ≡ bytes / len = omega arith in
        none ∙ sym (div-eq_of_lt-le len (omega (arith, div-add-mod' bytes len)) (omega (arith, div-add-mod' bytes len)))
    by (suc r) z =
        let one : bytes / len + min 1 (suc r) ≡ bytes / len + 1 = omega arith in
        one ∙ sym (div-eq_of_lt-le len (omega (arith, div-add-mod' bytes len)) (omega (arith, div-add-mod' bytes len, mod-lt bytes some)))

pub returns : goal.returns
returns c = c.div_ceil.ensures ∙ rounded _ _ c.requires
