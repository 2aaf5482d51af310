use Prim.Native.Nat.{◌+◌, ◌-◌}
use mathlib.Core.Path.{◌≡◌, refl, ap, ◌∙◌}
use native.Mathlib.Omega.{arith}
use lib.ListN.{length}
use borrow.Rule.Slice.PartMut.{mid_of, mid_len}
use Rattle.rules.specs.Fields.{splice}
use Rattle.rules.specs.Fields.Laws.{splice_all, lent_back}
use Rattle.copying.specs.Front.{copied}
use Rattle.text.proofs.put_bytes.Goals as goal

pub returns : goal.returns
returns c =
    let a = c.args in
    let call = c.copy_into in
    let s = a.out.now in
    let src = a.src.now in
    let end = a.at + length src in
    let m : length (mid_of a.at (end - a.at) s) ≡ end - a.at = mid_len a.at end s (omega arith) in
    let y : call.new.dst ≡ src = copied _ src _ call.ensures ∙ splice_all (mid_of a.at (end - a.at) s) src (omega arith) in
    let n : length call.new.dst ≡ end - a.at = ap length y ∙ omega arith in
    (lent_back s a.at end call.new.dst (omega arith) (omega arith) n ∙ ap (splice s a.at) y, refl)
