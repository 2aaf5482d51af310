use native.Mathlib.Omega.{arith}
use Rattle.geometry.specs.View.{geometry_view}
use Rattle.laws.proofs.Index.Slots.{slot-at}
use Rattle.judging.specs.View.{opened-super}
use Rattle.retyping.proofs.place_of.Goals as goal

pub index_start-start-requires : goal.index_start-start-requires
index_start-start-requires c = (opened-super _ _ c.requires.0).good.index-fits

pub offset-requires : goal.offset-requires
offset-requires c =
    omega (arith, c.index_start-start.ensures, slot-at c.args.img.now (geometry_view c.args.g) c.args.slot.0, c.requires.1, (opened-super _ _ c.requires.0).short)

pub returns : goal.returns
returns c = omega (arith, c.offset.ensures.0, c.index_start-start.ensures, slot-at c.args.img.now (geometry_view c.args.g) c.args.slot.0)
