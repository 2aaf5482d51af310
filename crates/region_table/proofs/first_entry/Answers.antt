use Rattle.super_block.specs.View.{good-judged}
use Rattle.region_table.specs.Entries.{leads-told}
use Rattle.region_table.proofs.first_entry.Goals as goal

pub first_slot-from-requires : goal.first_slot-from-requires
first_slot-from-requires c = let p = c.requires in (good-judged _ _ p.0, p.1)

pub index_sound-requires : goal.index_sound-requires
index_sound-requires c =
    let e = c.first_slot-from.ensures in
    (good-judged _ _ c.requires.0, e.0, e.1, e.6)

pub returns : goal.returns
returns c =
    let e = c.first_slot-from.ensures in
    rw c.then_some.ensures (leads-told _ _ _ c.requires.0 _ e.0 e.1 e.3 e.6 _ c.index_sound.ensures)
