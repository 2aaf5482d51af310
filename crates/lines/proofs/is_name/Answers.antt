use Rattle.std.proofs.Common.{ap, sym, ◌∙◌, inl, inr}
use mathlib.Core.Bool.{not}
use borrow.Author.Tests.{eqb-true, eq-eqb}
use Rattle.rules.specs.Lists.Laws.{clash}
use Rattle.lines.specs.Feeding.{name-empty, name-long, name_by, none_zero}
use Rattle.lines.proofs.is_name.Goals as goal

pub returns-then-is_empty : goal.returns-then-is_empty
returns-then-is_empty c =
    elim c.then-is_empty.either [
      | inl e ↦ name-empty _ (eqb-true _ 0 (sym c.is_empty.ensures ∙ e))
      | inr e ↦ name-long _ e.1
    ]

pub returns : goal.returns
returns c = ap not (c.contains.ensures.value ∙ none_zero _) ∙ name_by _ (λ e. clash (sym (eq-eqb _ 0 e) ∙ sym c.is_empty.ensures ∙ c.if-is_empty.false)) c.if-line-gt-LONGEST.false
