use Rattle.std.proofs.Common.{rules, ◌≡◌, ◌+◌, length, get_or, drop, ap, arith, length-append}
use Rattle.rules.specs.Report.{pairs}
use Rattle.text.specs.Wrote.{left-none, left-next}
use Rattle.report.specs.View.{pair_text}
use Rattle.report.specs.Text.{pairs_end, pairs_next}
use Rattle.report.proofs.held.Report.put_pairs.Goals as goal

pub put_pair-end-requires : goal.put_pair-end-requires
put_pair-end-requires c =
    let l = c.loop-i in
    let cs = c.args.self.now.counts in
    let long : length cs ≡ 9 = search rules in
    omega (arith, ap length (pairs_next cs l.i (omega arith)), length-append (pair_text l.i (get_or cs l.i 0)) (pairs (l.i + 1) (drop (l.i + 1) cs)), l.invariant)

pub loop-i-preserved : goal.loop-i-preserved
loop-i-preserved c =
    let l = c.loop-i in
    let cs = c.args.self.now.counts in
    let long : length cs ≡ 9 = search rules in
    left-next _ _ _ _ _ _ _ _ _ _ (pairs_next cs l.i (omega arith)) (omega (arith, l.invariant)) (omega arith) l.invariant c.put_pair-end.ensures

pub returns : goal.returns
returns c =
    let l = c.loop-i in
    let cs = c.args.self.now.counts in
    let long : length cs ≡ 9 = search rules in
    left-none _ _ _ _ _ _ (pairs_end cs l.i (omega arith)) l.invariant
