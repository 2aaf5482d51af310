use Prim.Native.Nat.{◌+◌, ◌-◌}
use mathlib.Core.Path.{◌≡◌, ◌∙◌}
use native.Mathlib.Omega.{arith}
use Rattle.rules.specs.Lists.{part}
use Rattle.copying.specs.Front.{copied}
use Rattle.copying.proofs.copy_out.Goals as goal

pub returns : goal.returns
unfolding part
returns c =
    let a = c.args in
    let x = c.index-start.result in
    let w : x + a.n - x ≡ a.n = omega arith in
    copied a.out.now _ _ c.copy_into.ensures ∙ rw (w, c.index-start.ensures)
