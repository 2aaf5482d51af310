use Rattle.std.proofs.Common.{length, sym, ap, ◌∙◌, arith}
use Rattle.rules.specs.Fields.{splice}
use Rattle.rules.specs.Fields.Laws.{splice-nil}
use Rattle.text.specs.Wrote.{wrote-both, wrote_as}
use Rattle.report.specs.Text.{pair-none, pair-some, pair-length}
use Rattle.report.proofs.put_pair.Goals as goal

pub returns-then-count-eq0 : goal.returns-then-count-eq0
returns-then-count-eq0 c =
    let a = c.args in
    let e = pair-none a.n _ c.if-count-eq0.true in
    (sym (ap (splice a.out.now a.at) e ∙ splice-nil _ _), omega (arith, ap length e))

pub put_counted-end-requires : goal.put_counted-end-requires
put_counted-end-requires c = omega (arith, pair-length c.args.n _ c.if-count-eq0.false)

pub put_counted-requires : goal.put_counted-requires
put_counted-requires c = omega (arith, pair-length c.args.n _ c.if-count-eq0.false)

pub returns : goal.returns
returns c =
    let n = pair-length c.args.n _ c.if-count-eq0.false in
    wrote_as _ _ _ _ _ _ (sym (pair-some c.args.n _ c.if-count-eq0.false))
    (wrote-both _ _ _ _ _ _ _ _ (omega arith) c.put_counted-end.ensures c.put_counted.ensures)
