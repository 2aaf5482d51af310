use Rattle.geometry.specs.View.{geometry_view}
use Rattle.ends.specs.Ends.{marker-moves, marker-stays}
use Rattle.ends.proofs.move_marker.Goals as goal

pub returns-then-old-new : goal.returns-then-old-new
returns-then-old-new c =
    let a = c.args in
    marker-moves a.img.now _ (geometry_view a.old) (geometry_view a.new) _ c.if-old-new.true c.index_start-start.ensures c.put_marker.ensures

pub returns-else-old-new : goal.returns-else-old-new
returns-else-old-new c =
    let a = c.args in
    marker-stays a.img.now (geometry_view a.old) (geometry_view a.new) c.if-old-new.false
