use mathlib.Core.Path.{ap, ◌∙◌}
use mir.Syntax.{w64}
use mir.ValLaws.{to_z-of_z}
use Rattle.rules.specs.Writing.{delete_of}
use Rattle.undoing.proofs.Calls.{leaves_nothing}
use Rattle.undoing.proofs.delete_wiped.Goals as goal

pub returns : goal.returns
returns c =
    leaves_nothing _ _ _ c.args.stamp _ (c.sfs_delete.ensures ∙ ap (delete_of c.args.image.now c.args.path.now) (to_z-of_z w64 c.args.stamp c.ranges.stamp))
