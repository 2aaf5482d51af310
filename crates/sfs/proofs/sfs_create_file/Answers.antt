use mathlib.Core.Path.{ap, ◌∙◌}
use Rattle.rules.specs.Writing.{create_of, new_file}
use Rattle.placing.specs.Site.{new_of}
use Rattle.sfs.proofs.Stamps.{stamp-is}
use Rattle.sfs.proofs.sfs_create_file.Goals as goal

pub returns : goal.returns
unfolding new_of
returns c =
    rw c.answer.ensures
    (c.create.ensures
    ∙ ap (create_of c.args.image.now (new_file c.args.bytes.now) c.args.path.now) (stamp-is c.args.stamp _ c.ranges.stamp c.to_bits.ensures))
