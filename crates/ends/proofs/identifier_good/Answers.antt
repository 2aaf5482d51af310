use mathlib.Core.Path.{sym, ◌∙◌}
use borrow.Author.Tests.{ne_eqb}
use Rattle.rules.specs.Lists.Laws.{clash}
use Rattle.editions.specs.View.{edition_view}
use Rattle.ends.specs.Ends.{identifier-type, identifier-broken, identifier-named}
use Rattle.ends.proofs.identifier_good.Goals as goal
use Rattle.ends.proofs.identifier_good.Goals.{then-kind_at-eq-IDENTIFIER, else-kind_at-eq-IDENTIFIER}

pub returns-then-sum_good : goal.returns-then-sum_good
returns-then-sum_good c =
    let a = c.args in
    elim c.if-kind_at-eq-IDENTIFIER.branch [
      | then-kind_at-eq-IDENTIFIER w ↦
          identifier-named a.img.now _ c.identifier-at.ensures.0 (edition_view a.ed) _ c.kind_at.ensures _ w.sum_good.ensures w.if-kind_at-eq-IDENTIFIER.true
          (sym w.value-is ∙ c.if-sum_good.true) _ c.volume_field.ensures _ c.volume_field_good.ensures
      | else-kind_at-eq-IDENTIFIER w ↦ clash (sym c.if-sum_good.true ∙ w.value-is ∙ ne_eqb _ _ w.if-kind_at-eq-IDENTIFIER.false)
    ]

pub returns-else-sum_good : goal.returns-else-sum_good
returns-else-sum_good c =
    let a = c.args in
    c.if-sum_good.false
    ∙ elim c.if-kind_at-eq-IDENTIFIER.branch [
      | then-kind_at-eq-IDENTIFIER w ↦
          identifier-broken a.img.now _ c.identifier-at.ensures.0 (edition_view a.ed) _ c.kind_at.ensures _ w.sum_good.ensures (sym w.value-is ∙ c.if-sum_good.false)
      | else-kind_at-eq-IDENTIFIER w ↦
          identifier-type a.img.now _ c.identifier-at.ensures.0 (edition_view a.ed) _ c.kind_at.ensures w.if-kind_at-eq-IDENTIFIER.false
    ]
