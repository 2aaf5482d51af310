use Rattle.geometry.specs.View.{geometry_view}
use Rattle.formatting.specs.Volume.{volume-put}
use Rattle.formatting.proofs.write_volume.Goals as goal

pub returns : goal.returns
returns c =
    let a = c.args in
    volume-put a.img.now _ _ (geometry_view a.g) a.name.now c.put_super.ensures c.put_super.auto.img c.put.ensures
