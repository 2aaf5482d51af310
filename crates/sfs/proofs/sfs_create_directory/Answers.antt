use mathlib.Core.Path.{ap, ◌∙◌}
use Rattle.rules.specs.Writing.{create_of, new_directory}
use Rattle.placing.specs.Site.{new_of}
use Rattle.sfs.proofs.Stamps.{stamp-is}
use Rattle.sfs.proofs.sfs_create_directory.Goals as goal

pub returns : goal.returns
unfolding new_of
returns c =
    rw c.answer.ensures
    (c.create.ensures
    ∙ ap (create_of c.args.image.now new_directory c.args.path.now) (stamp-is c.args.stamp _ c.ranges.stamp c.to_bits.ensures))
