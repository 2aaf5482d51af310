use Rattle.std.proofs.Common.{ap, ◌∙◌, set}
use Rattle.copying.specs.Front.{front-next}
use Rattle.copying.proofs.copy_into.Goals as goal

pub loop-i-preserved : goal.loop-i-preserved
loop-i-preserved g c =
    ap (λ t. set t c.loop-i.i c.index-src-i.result) c.loop-i.invariant ∙ front-next c.args.dst.now c.args.src.now c.loop-i.i c.index-src-i.result c.loop-i-test.true c.requires c.index-src-i.is
