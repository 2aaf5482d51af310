use mathlib.Core.Path.{◌≡◌, ◌∙◌}
use native.Mathlib.Omega.{arith}
use lib.ListN.{length, drop}
use lib.Seq.{drop-length}
use Rattle.rules.specs.Fields.{byte_sum}
use Rattle.rules.specs.Fields.Laws.{sum-turn, byte_sum-nil}
use Rattle.fields.proofs.sum_of.Goals as goal

pub loop-b-preserved : goal.loop-b-preserved
loop-b-preserved c = let l = c.loop-b in sum-turn c.args.s.now l.b-index l.r c.loop-b-test.true ∙ l.invariant

pub returns : goal.returns
returns c =
    let l = c.loop-b in
    let s = c.args.s.now in
    let z : l.b-index ≡ length s = omega arith in
    let e : byte_sum (drop l.b-index s) ≡ 0 = rw (z, drop-length) byte_sum-nil in
    omega arith
