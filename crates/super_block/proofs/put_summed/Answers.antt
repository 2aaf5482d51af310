use native.Mathlib.Omega.{arith}
use Rattle.geometry.specs.View.{geometry_view}
use Rattle.super_block.specs.Written.{summed-put}
use Rattle.super_block.proofs.put_summed.Goals as goal

pub put_le-requires-4 : goal.put_le-requires-4
put_le-requires-4 c = omega (arith, c.requires, c.place-4.ensures, c.put_le-3.auto, c.put_le-2.auto, c.put_le.auto)

pub put_le-requires-5 : goal.put_le-requires-5
put_le-requires-5 c = omega (arith, c.requires, c.place-5.ensures, c.put_le-4.auto, c.put_le-3.auto, c.put_le-2.auto, c.put_le.auto)

pub shape_of-img : goal.shape_of-img
shape_of-img c = omega (arith, c.put_le-5.auto, c.put_le-4.auto, c.put_le-3.auto, c.put_le-2.auto, c.put_le.auto)

pub returns : goal.returns
returns c =
    let p = c.place in
    let q = c.place-2 in
    let r = c.place-3 in
    let u = c.place-4 in
    let w = c.place-5 in
    summed-put c.args.img.now c.requires (geometry_view c.args.g) p.result.0 q.result.0 r.result.0 u.result.0 w.result.0
    p.ensures.0 (omega (arith, q.ensures.0)) (omega (arith, r.ensures.0)) (omega (arith, u.ensures.0)) (omega (arith, w.ensures.0))
    _ _ _ _ _ _ _ c.wide.ensures.0 c.wide.ensures.1 c.wide-2.ensures.0 c.wide-2.ensures.1
    c.put_le.ensures c.put_le-2.ensures c.put_le-3.ensures c.put_le-4.ensures c.put_le-5.ensures
