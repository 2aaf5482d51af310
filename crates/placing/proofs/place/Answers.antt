use mathlib.Core.Path.{refl}
use native.Mathlib.Omega.{arith}
use Rattle.placing.specs.Placed.{head-fits, site-put}
use Rattle.placing.proofs.place.Goals as goal

pub put_run-requires : goal.put_run-requires
put_run-requires c =
    let f = head-fits _ _ _ _ c.requires _ _ c.head_of-h.ensures in
    (omega (arith, f.0), f.1, f.2, f.3)

pub returns : goal.returns
returns c =
    site-put _ _ _ _ c.requires _ _ c.head_of-h.ensures _ refl _ _ _ _ _
    c.put_sizes.ensures c.move_marker.ensures c.put_run.ensures c.bytes.ensures c.put_blocks.ensures
