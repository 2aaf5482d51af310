use mathlib.Core.Path.{◌∙◌}
use borrow.Author.Tests.{ne_eqb}
use Rattle.geometry.specs.View.{geometry_view}
use Rattle.ends.specs.Ends.{marker-type, marker-summed}
use Rattle.ends.proofs.marker_good.Goals as goal

pub returns-then-kind_at-eq-MARKER : goal.returns-then-kind_at-eq-MARKER
returns-then-kind_at-eq-MARKER c =
    let a = c.args in
    marker-summed a.img.now (geometry_view a.g) _ _ c.index_start-at.ensures c.kind_at.ensures c.if-kind_at-eq-MARKER.true _ c.sum_good.ensures

pub returns-else-kind_at-eq-MARKER : goal.returns-else-kind_at-eq-MARKER
returns-else-kind_at-eq-MARKER c =
    let a = c.args in
    ne_eqb _ _ c.if-kind_at-eq-MARKER.false
    ∙ marker-type a.img.now (geometry_view a.g) _ _ c.index_start-at.ensures c.kind_at.ensures c.if-kind_at-eq-MARKER.false
