use Prim.Native.Nat.{◌+◌, ◌-◌, ◌*◌}
use mathlib.Core.Path.{◌≡◌, sym, ◌∙◌}
use native.Mathlib.Omega.{arith}
use Rattle.runs.specs.Written.{unused-turn, unused-end}
use Rattle.runs.proofs.clear_run.Goals as goal

pub loop-i-init : goal.loop-i-init
loop-i-init c =
    let k : c.args.at.0 + 64 * 0 ≡ c.args.at.0 = omega arith in
    let n : c.args.slots - 0 ≡ c.args.slots = omega arith in
    rw (k, n)

pub loop-i-preserved : goal.loop-i-preserved
loop-i-preserved c =
    let l = c.loop-i in
    let a = c.args.at.0 in
    let n = c.args.slots - l.i in
    let one : c.args.slots - (l.i + 1) ≡ n - 1 = omega arith in
    let put = rw c.after_slots.ensures at c.put_bare.ensures in
    rw one (unused-turn _ l.img _ (a + 64 * l.i) n (a + 64 * (l.i + 1)) (omega arith) (omega arith) (omega arith) put ∙ l.invariant)

pub returns : goal.returns
returns c =
    let l = c.loop-i in
    sym (unused-end _ _ (c.args.at.0 + 64 * l.i) (c.args.slots - l.i) (omega arith)) ∙ l.invariant
