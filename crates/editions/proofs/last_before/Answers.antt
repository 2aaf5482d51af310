use mathlib.Core.Path.{◌≡◌, sym, ◌∙◌}
use lib.Dec.{ltb}
use borrow.Author.Rules.{rules}
use native.Mathlib.Omega.{arith}
use borrow.Author.Tests.{eq-eqb, ne_eqb, le-leb}
use Rattle.editions.specs.Ends.{before-next}
use Rattle.rules.specs.Lists.Laws.{pick_true, pick-false}
use Rattle.editions.proofs.last_before.Goals as goal

pub returns-then-number-eq0 : goal.returns-then-number-eq0
returns-then-number-eq0 c = let z = sym c.number.ensures ∙ c.if-number-eq0.true in rw (eq-eqb _ _ c.if-number-eq0.true, pick_true _ _ (eq-eqb _ _ z)) (sym (le-leb 0 c.args.b.0 (omega arith)))

pub returns-else-number-eq0 : goal.returns-else-number-eq0
returns-else-number-eq0 c =
    let a = c.args in
    let h : c.lt.result ≡ ltb a.last.0 a.b.0 = search rules in
    rw (pick-false _ _ (ne_eqb _ _ (λ e. c.if-number-eq0.false (c.number.ensures ∙ e)))) (h ∙ before-next a.last.0 a.b.0)
