use mathlib.Core.Path.{ap, ◌∙◌}
use mir.Syntax.{w64}
use mir.ValLaws.{to_z-of_z}
use Rattle.rules.specs.Writing.{reclaim_of}
use Rattle.contracts.specs.Promises.{Reclaims}
use Rattle.undoing.proofs.Calls.{not-reclaimed, too-late}
use Rattle.undoing.proofs.restored_too_late.Goals as goal
use Rattle.undoing.proofs.restored_too_late.Goals.{After-sfs_reclaim-refusal}

reclaims : (c : After-sfs_reclaim-refusal) → Reclaims c.args.image.now c.args.reclaimed c.sfs_reclaim-refusal.result c.sfs_reclaim-refusal.new.image
reclaims c = c.sfs_reclaim-refusal.ensures ∙ ap (reclaim_of c.args.image.now) (to_z-of_z w64 c.args.reclaimed c.ranges.reclaimed)

pub returns-then-refusal-ne0 : goal.returns-then-refusal-ne0
returns-then-refusal-ne0 c = not-reclaimed _ _ _ _ (reclaims (goal.at.returns-then-refusal-ne0 c).After-sfs_reclaim-refusal) c.if-refusal-ne0.true

pub returns : goal.returns
returns c = too-late _ _ _ _ _ _ _ _ (reclaims (goal.at.returns c).After-sfs_reclaim-refusal) c.sfs_restore.ensures
