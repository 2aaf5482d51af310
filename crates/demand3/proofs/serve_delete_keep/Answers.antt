use mathlib.Core.Path.{refl, ap, ◌∙◌}
use mir.Syntax.{w64}
use mir.ValLaws.{to_z-of_z}
use Rattle.rules.specs.Writing.{delete_keep_of}
use Rattle.demand3.proofs.serve_delete_keep.Goals as goal

pub returns : goal.returns
returns c = (_, _, c.sfs_delete_keep.ensures ∙ ap (delete_keep_of c.args.image.now c.args.path.now) (to_z-of_z w64 c.args.stamp c.ranges.stamp), refl)
