use Rattle.geometry.specs.View.{geometry_view}
use Rattle.planning.specs.Places.{site-made}
use Rattle.planning.proofs.site_at.Goals as goal

pub returns : goal.returns
returns c =
    let a = c.args in
    site-made (geometry_view a.g) (geometry_view a.grown) _ _ _ _ _ _ (geometry_view c.extend_data.result) (geometry_view c.restamp-new.result)
    c.after-end.ensures c.extend_data.ensures c.restamp-new.ensures
