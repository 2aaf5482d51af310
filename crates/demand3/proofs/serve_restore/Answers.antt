use mathlib.Core.Path.{refl, ap, ◌∙◌}
use mir.Syntax.{w64}
use mir.ValLaws.{to_z-of_z}
use Rattle.rules.specs.Writing.{restore_of}
use Rattle.demand3.proofs.serve_restore.Goals as goal

pub returns : goal.returns
returns c = (_, _, c.sfs_restore.ensures ∙ ap (restore_of c.args.image.now c.args.path.now) (to_z-of_z w64 c.args.stamp c.ranges.stamp), refl)
