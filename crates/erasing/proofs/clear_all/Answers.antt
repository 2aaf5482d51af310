use mathlib.Core.Path.{ap, ◌∙◌}
use native.Mathlib.Omega.{arith}
use Rattle.rules.specs.Index.Items.{faultless}
use Rattle.editions.specs.View.{edition_view}
use Rattle.erasing.specs.Reclaim.{clears-index}
use Rattle.erasing.proofs.clear_all.Goals as goal

pub first_slot-from-requires : goal.first_slot-from-requires
first_slot-from-requires c = (c.requires.0, omega arith)

pub clear_deleted-requires : goal.clear_deleted-requires
clear_deleted-requires c =
    let e = c.first_slot-from.ensures in
    (record { inside = e.1; sound = ap faultless e.0 ∙ c.requires.1 }, e.6)

pub returns : goal.returns
returns c =
    let f = c.first_slot-from in
    let e = f.ensures in
    clears-index _ _ _ f.result (ap edition_view e.5) e.2 e.0 c.clear_deleted.ensures
