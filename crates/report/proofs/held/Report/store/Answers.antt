use Rattle.std.proofs.Common.{◌≡◌, ◌+◌, ◌*◌, length, take, slice_index_or, [], refl, sym, ap, ◌∙◌, arith, take_all, rules}
use Rattle.rules.specs.Fields.{splice}
use Rattle.rules.specs.Fields.Laws.{splice-nil, lent_back}
use Rattle.rules.specs.Report.{report_numbers}
use Rattle.rules.specs.Text.{joined}
use Rattle.text.specs.Wrote.{wrote-both, wrote_as}
use Rattle.report.specs.Numbers.{joined-more}
use Rattle.report.proofs.held.Report.store.Goals as goal

pub loop-k-init : goal.loop-k-init
loop-k-init c = (sym (splice-nil _ _), refl)

pub loop-k-preserved : goal.loop-k-preserved
loop-k-preserved c =
    let l = c.loop-k in
    let t = c.args.self.now.table in
    let h = c.args.self.now.stored in
    let row = slice_index_or t l.k [] in
    let long : length row ≡ 3 = (h.1 l.k (omega (arith, c.loop-k-test.true, h.0))).0 in
    let put =
    lent_back l.numbers (3 * l.k) (3 * l.k + 3) _ (omega arith) (omega (arith, c.requires, c.loop-k-test.true, h.0)) (omega (arith, c.copy_from_slice.ensures.len))
    ∙ ap (splice l.numbers (3 * l.k)) c.copy_from_slice.ensures.after in
    wrote_as _ _ _ _ _ _ (sym (joined-more t l.k (omega (arith, c.loop-k-test.true, h.0))))
    (wrote-both _ l.numbers _ 0 (3 * l.k) (3 * (l.k + 1)) (joined (take l.k t)) row (omega (arith, c.requires, c.loop-k-test.true, h.0)) l.invariant (put, omega arith))

pub returns : goal.returns
unfolding report_numbers
returns c =
    let l = c.loop-k in
    let r = c.args.self.now in
    let nine : length r.counts ≡ 9 = search rules in
    let last : l.k ≡ 6 = omega (arith, c.loop-k-test.false, l.auto.k-end, r.stored.0) in
    let rows = rw (last, take_all 6 r.table (omega (arith, r.stored.0))) at l.invariant in
    let put = lent_back l.numbers 18 27 _ (omega arith) (omega (arith, c.requires)) (omega (arith, c.copy_from_slice-2.ensures.len)) ∙ ap (splice l.numbers 18) c.copy_from_slice-2.ensures.after in
    (wrote-both _ l.numbers _ 0 18 27 (joined r.table) r.counts (omega (arith, c.requires)) rows (put, omega arith)).0
