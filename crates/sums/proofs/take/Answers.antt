use mathlib.Core.Path.{◌≡◌, sym, ◌∙◌}
use native.Mathlib.Omega.{arith}
use Rattle.sums.specs.Summed.{unsummed, adds-summed, summed_second}
use Rattle.sums.proofs.take.Goals as goal

pub returns-then-sum_length-eq0 : goal.returns-then-sum_length-eq0
returns-then-sum_length-eq0 c = unsummed _ _ _ _ _ _ (sym c.sum_length.ensures.0 ∙ c.if-sum_length-eq0.true) c.requires.2

pub returns : goal.returns
returns c =
    let first : c.number.result ≡ c.args.first.0 = c.number.ensures in
    let ed = summed_second _ (λ e. c.if-sum_length-eq0.false (c.sum_length.ensures.0 ∙ e)) in
    rw (ed, ← first) (adds-summed _ _ _ _ _ (omega (arith, first, c.requires.2, c.add_up.auto)) c.add_up.ensures)
