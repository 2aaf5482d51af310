use Prim.Native.Nat.{◌-◌}
use native.Mathlib.Omega.{arith}
use Rattle.rules.specs.Fields.{signed_of}
use Rattle.editions.specs.View.{edition_view}
use Rattle.runs.specs.Written.{head-put}
use Rattle.runs.proofs.put_head.Goals as goal

pub returns : goal.returns
returns c =
    let h = c.args.h in
    head-put (edition_view h.edition) c.args.img.now h.at.0 h.kind (h.slots - 1) (signed_of h.stamp) _ _ (omega arith) (omega arith)
    c.field.ensures.0 c.field-2.ensures.0 _ _ _ c.put_type.ensures c.put_le.ensures c.put_stamp.ensures
