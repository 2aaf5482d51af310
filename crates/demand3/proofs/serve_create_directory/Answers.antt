use mathlib.Core.Path.{refl, ap, ◌∙◌}
use mir.Syntax.{w64}
use mir.ValLaws.{to_z-of_z}
use Rattle.rules.specs.Writing.{create_of, new_directory}
use Rattle.demand3.proofs.serve_create_directory.Goals as goal

pub returns : goal.returns
returns c =
    (_, _, c.sfs_create_directory.ensures ∙ ap (create_of c.args.image.now new_directory c.args.path.now) (to_z-of_z w64 c.args.stamp c.ranges.stamp), refl)
