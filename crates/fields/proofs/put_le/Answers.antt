use Prim.Native.Nat.{◌+◌, ◌-◌}
use mathlib.Core.Path.{◌≡◌, sym, ◌∙◌}
use native.Mathlib.Omega.{arith}
use lib.ListN.{length}
use borrow.Rule.Slice.PartMut.{mid_of, mid_len}
use Rattle.rules.specs.Fields.{le_bytes}
use Rattle.rules.specs.Fields.Laws.{put_up, splice-nil, splice_all, lent_back, le_bytes-zero, length-le_bytes}
use Rattle.fields.proofs.put_le.Goals as goal
use Rattle.fields.proofs.put_le.Goals.{After-index-start}

-- the lent part has w bytes
wide : (c : After-index-start) → length (mid_of c.index-start.result (c.index-start.result + c.args.w - c.index-start.result) c.args.s.now) ≡ c.args.w
wide c = mid_len c.index-start.result (c.index-start.result + c.args.w) c.args.s.now (omega arith) ∙ omega arith

pub loop-byte-init : goal.loop-byte-init
loop-byte-init c =
    let w = wide (goal.at.loop-byte-init c).After-index-start in
    let n : c.args.w - 0 ≡ c.args.w = omega arith in
    rw n (splice_all _ (le_bytes c.args.w c.args.v) (length-le_bytes c.args.w c.args.v ∙ sym w))

pub loop-byte-preserved : goal.loop-byte-preserved
loop-byte-preserved c =
    let l = c.loop-byte in
    let w = wide (goal.at.loop-byte-preserved c).After-index-start in
    let n : c.args.w - (l.byte-index + 1) ≡ c.args.w - l.byte-index - 1 = omega arith in
    rw n (put_up l.byte-items l.byte-index (c.args.w - l.byte-index) l.x (omega arith) (omega arith) ∙ l.invariant)

pub returns : goal.returns
returns c =
    let l = c.loop-byte in
    let a = c.index-start.result in
    let w = wide (goal.at.returns c).After-index-start in
    let z : c.args.w - l.byte-index ≡ 0 = omega arith in
    let e : l.byte-items ≡ le_bytes c.args.w c.args.v = sym (splice-nil l.byte-items l.byte-index) ∙ (rw (z, le_bytes-zero) at l.invariant) in
    lent_back c.args.s.now a (a + c.args.w) l.byte-items (omega arith) (omega arith) (omega arith) ∙ rw (e, c.index-start.ensures)
