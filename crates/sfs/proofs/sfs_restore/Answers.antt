use mathlib.Core.Path.{ap, ◌∙◌}
use Rattle.rules.specs.Writing.{restore_of}
use Rattle.sfs.proofs.Stamps.{stamp-is}
use Rattle.sfs.proofs.sfs_restore.Goals as goal

pub returns : goal.returns
returns c =
    rw c.answer.ensures
    (c.restore.ensures
    ∙ ap (restore_of c.args.image.now c.args.path.now) (stamp-is c.args.stamp _ c.ranges.stamp c.to_bits.ensures))
