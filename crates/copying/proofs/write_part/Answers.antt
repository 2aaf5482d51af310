use Prim.Native.Nat.{◌-◌}
use mathlib.Core.Path.{◌≡◌, ap, ◌∙◌}
use native.Mathlib.Omega.{arith}
use lib.ListN.{length}
use borrow.Rule.Slice.PartMut.{mid_of, mid_len}
use Rattle.rules.specs.Fields.{splice}
use Rattle.rules.specs.Fields.Laws.{lent_back}
use Rattle.rules.specs.Lists.{padded}
use Rattle.rules.specs.Lists.Laws.{length-padded}
use Rattle.copying.proofs.write_part.Goals as goal

pub returns : goal.returns
returns c =
    let a = c.args in
    let call = c.copy_and_zero in
    let s = a.img.now in
    let x = c.index-start.result in
    let y = c.index-end.result in
    let m : length (mid_of x (y - x) s) ≡ y - x = mid_len x y s (omega arith) in
    let p : call.new.dst ≡ padded a.src.now (y - x) = rw m at call.ensures in
    let n : length call.new.dst ≡ y - x = ap length p ∙ length-padded a.src.now (y - x) (omega arith) in
    lent_back s x y call.new.dst (omega arith) (omega arith) n ∙ ap (splice s x) p ∙ rw (c.index-start.ensures, c.index-end.ensures)
