use Rattle.ends.specs.Ends.{stamp-read}
use Rattle.ends.proofs.volume_stamp.Goals as goal

pub returns : goal.returns
returns c = stamp-read c.args.img.now _ c.identifier.ensures.0 _ _ c.after.ensures c.le64_at.ensures
