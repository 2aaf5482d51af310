use mathlib.Core.Path.{ap, ◌∙◌}
use Rattle.rules.specs.Writing.{reclaim_of}
use Rattle.sfs.proofs.Stamps.{stamp-is}
use Rattle.sfs.proofs.sfs_reclaim.Goals as goal

pub returns : goal.returns
returns c =
    rw c.answer.ensures
    (c.reclaim.ensures
    ∙ ap (reclaim_of c.args.image.now) (stamp-is c.args.stamp _ c.ranges.stamp c.to_bits.ensures))
