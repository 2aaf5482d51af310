use mathlib.Core.Path.{refl, ap, ◌∙◌}
use mir.Syntax.{w64}
use mir.ValLaws.{to_z-of_z}
use Rattle.rules.specs.Writing.{create_of, new_file}
use Rattle.demand3.proofs.serve_create_file.Goals as goal

pub returns : goal.returns
returns c =
    (_, _, c.sfs_create_file.ensures ∙ ap (create_of c.args.image.now (new_file c.args.bytes.now) c.args.path.now) (to_z-of_z w64 c.args.stamp c.ranges.stamp), refl)
