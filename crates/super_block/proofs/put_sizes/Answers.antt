use native.Mathlib.Omega.{arith}
use Rattle.geometry.specs.View.{geometry_view}
use Rattle.super_block.specs.Written.{sizes-put}
use Rattle.super_block.proofs.put_sizes.Goals as goal

pub returns : goal.returns
returns c =
    let p = c.place in
    let q = c.place-2 in
    let r = c.place-3 in
    sizes-put c.args.img.now c.requires (geometry_view c.args.g) p.result.0 q.result.0 r.result.0 (omega (arith, p.ensures.0)) q.ensures.0 r.ensures.0
    _ _ _ c.put_stamp.ensures c.put_le.ensures c.put_le-2.ensures
