use native.Mathlib.Omega.{arith}
use Rattle.judging.specs.View.{opened-super, opened-walks, opened-small}
use Rattle.erasing.specs.Least.{sizes-are}
use Rattle.erasing.proofs.least_sizes.Goals as goal

pub first_slot-from-requires : goal.first_slot-from-requires
first_slot-from-requires c = (opened-super _ _ c.requires, omega arith)

pub last_end-requires : goal.last_end-requires
last_end-requires c =
    let x = c.requires in
    let e = c.first_slot-from.ensures in
    (opened-walks _ _ x _ e.0 e.1, opened-small _ _ x c.first_slot-from.result e.0, e.6)

pub returns : goal.returns
returns c = sizes-are _ _ _ _ c.first_slot-from.result c.first_slot-from.ensures.0 _ _ _ c.last_end.ensures c.trim_data-trimmed.ensures c.restamp.ensures
