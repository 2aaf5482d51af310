use mathlib.Core.Path.{refl, ap, ◌∙◌}
use mir.Syntax.{w64}
use mir.ValLaws.{to_z-of_z}
use Rattle.rules.specs.Writing.{format_of}
use Rattle.demand3.proofs.serve_format.Goals as goal

pub returns : goal.returns
returns c =
    (_, _, c.sfs_format.ensures ∙ ap (format_of c.args.image.now c.args.version c.args.bytes_per_block c.args.reserved c.args.name.now) (to_z-of_z w64 c.args.stamp c.ranges.stamp), refl)
