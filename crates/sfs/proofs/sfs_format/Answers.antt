use mathlib.Core.Path.{ap, ◌∙◌}
use Rattle.rules.specs.Writing.{format_of}
use Rattle.sfs.proofs.Stamps.{stamp-is}
use Rattle.sfs.proofs.sfs_format.Goals as goal

pub returns : goal.returns
returns c =
    rw c.answer.ensures
    (c.format.ensures
    ∙ ap (format_of c.args.image.now c.args.version c.args.bytes_per_block c.args.reserved c.args.name.now) (stamp-is c.args.stamp _ c.ranges.stamp c.to_bits.ensures))
