use mathlib.Core.Path.{ap}
use native.Mathlib.Omega.{arith}
use lib.ListN.{length}
use Rattle.slots.specs.View.{head_view}
use Rattle.text.specs.Wrote.{wrote-both, wrote_as}
use Rattle.records.specs.View.{place_bytes, extent_bytes, path_bytes, place-length, extent-length, path-length, record-parts}
use Rattle.records.proofs.put_record.Goals as goal

pub put_extent-count-requires : goal.put_extent-count-requires
put_extent-count-requires c = omega (arith, place-length c.args.h)

pub put_path-requires : goal.put_path-requires
put_path-requires c =
    let h = c.args.h in
    omega (arith, place-length h, extent-length h, ap length c.path_of.ensures)

pub returns : goal.returns
returns c =
    let a = c.args in
    let path = (head_view a.img.now a.h).path in
    let l₁ = place-length a.h in
    let l₂ = extent-length a.h in
    let l₃ = path-length path in
    let w = rw c.path_of.ensures at c.put_path.ensures in
    wrote_as _ _ _ _ _ _ (record-parts a.img.now a.h)
    (wrote-both _ _ _ _ _ _ (place_bytes a.h) _ (omega arith) c.put_place-extent.ensures
    (wrote-both _ _ _ _ _ _ (extent_bytes a.h) (path_bytes path) (omega arith) c.put_extent-count.ensures w))

pub shape_of-out : goal.shape_of-out
shape_of-out c = omega arith
