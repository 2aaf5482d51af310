use Prim.Native.Nat.{◌+◌, ◌%◌, ◌<◌}
use mathlib.Core.Path.{◌≡◌, sym}
use native.Mathlib.Omega.{arith}
use lib.ListN.{length, length-set}
use lib.Seq.{get_or-set_same}
use Rattle.sums.specs.Summed.{adds-first, adds-more}
use Rattle.sums.proofs.add_up.Goals as goal

pub loop-i-init : goal.loop-i-init
loop-i-init c =
    let t = c.args.sums.now in
    let room : c.args.first < length t = omega (arith, c.requires.2) in
    let k : c.args.first + 0 ≡ c.args.first = omega arith in
    (omega arith, rw k (sym (get_or-set_same t c.args.first 0 0 room)), adds-first _ t _ _ 0 room)

pub loop-i-preserved : goal.loop-i-preserved
loop-i-preserved c =
    let l = c.loop-i in
    let f = c.args.first in
    let k = f + l.i + 1 in
    let next : k ≡ f + (l.i + 1) = omega arith in
    let room : k < length l.sums = omega (arith, c.requires.2, length-set c.args.sums.now f 0) in
    let v = (l.sum + c.slot_sum.result) % 256 in (
      omega arith,
      rw (← next) (sym (get_or-set_same l.sums k v 0 room)),
      adds-more _ l.sums _ f l.i l.i k v _ next room l.invariant.2 c.slot_sum.ensures.0 (rw (← l.invariant.1)),
    )
