use mathlib.Core.Path.{refl, ap, ◌∙◌}
use mir.Syntax.{w64}
use mir.ValLaws.{to_z-of_z}
use Rattle.rules.specs.Writing.{delete_of}
use Rattle.demand3.proofs.serve_delete.Goals as goal

pub returns : goal.returns
returns c = (_, _, c.sfs_delete.ensures ∙ ap (delete_of c.args.image.now c.args.path.now) (to_z-of_z w64 c.args.stamp c.ranges.stamp), refl)
