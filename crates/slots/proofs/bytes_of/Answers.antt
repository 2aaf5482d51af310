use Prim.Native.Nat.{◌-◌, ◌*◌}
use mathlib.Core.Path.{◌≡◌}
use native.Mathlib.Omega.{arith}
use Rattle.slots.proofs.bytes_of.Goals as goal

pub returns : goal.returns
returns c =
    let a = c.args in
    let x = c.index-start.ensures in
    let n : c.index-end.result - c.index-start.result ≡ 64 * a.n = omega (arith, x, c.index-end.ensures, c.after_slots.ensures) in
    rw (n, x)
