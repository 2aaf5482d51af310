use Prim.Native.Nat.{◌-◌, ◌^◌}
use native.Mathlib.Nat.{mod-lt}
use native.Mathlib.Omega.{arith}
use lib.IntN.{nat_abs}
use mir.Syntax.{w64}
use mir.Val.{of_z, to_z}
use Rattle.stamps.proofs.Signed.{is-neg, is_pos, to-neg-cast, to-pos-cast, mod-neg, mod-pos}
use Rattle.stamps.proofs.floor_mod.Goals as goal

pub overflow_cast-result : goal.overflow_cast-result
overflow_cast-result c = let (n, e, h) = is-neg c.args.a c.ranges.a c.if-a-lt0.true in rw e (to-neg-cast n h)

pub overflow_sub-result-then-a-lt0 : goal.overflow_sub-result-then-a-lt0
overflow_sub-result-then-a-lt0 c = omega (arith, mod-lt (nat_abs (to_z w64 (2 ^ 64 - 1 - of_z w64 c.args.a))) c.requires)

pub overflow_cast-result-else-a-lt0 : goal.overflow_cast-result-else-a-lt0
overflow_cast-result-else-a-lt0 c = let (n, e, h) = is_pos c.args.a c.ranges.a c.if-a-lt0.false in rw e (to-pos-cast n h)

pub returns-then-a-lt0 : goal.returns-then-a-lt0
returns-then-a-lt0 c = let (n, e, h) = is-neg c.args.a c.ranges.a c.if-a-lt0.true in rw e (mod-neg c.args.b n h)

pub returns-else-a-lt0 : goal.returns-else-a-lt0
returns-else-a-lt0 c = let (n, e, h) = is_pos c.args.a c.ranges.a c.if-a-lt0.false in rw e (mod-pos c.args.b n h)
