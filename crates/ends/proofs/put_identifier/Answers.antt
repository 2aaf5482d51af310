use Rattle.rules.specs.Fields.{signed_of}
use Rattle.editions.specs.View.{edition_view}
use Rattle.ends.specs.Ends.{identifier-put}
use Rattle.ends.proofs.put_identifier.Goals as goal

pub returns : goal.returns
returns c =
    let a = c.args in
    identifier-put (edition_view a.ed) (signed_of a.stamp) a.name.now c.requires.1 a.img.now a.at.0 _ _ _ _ c.requires.0 c.from.ensures c.after.ensures c.after-2.ensures c.after_slots.ensures
    _ _ _ _ c.put_le.ensures c.put_stamp.ensures c.write_part.ensures c.seal.ensures
