use mathlib.Core.Path.{ap, ◌∙◌}
use mir.Syntax.{w64}
use mir.ValLaws.{to_z-of_z}
use Rattle.rules.specs.Writing.{delete_keep_of}
use Rattle.contracts.specs.Promises.{DeletesKeeping}
use Rattle.undoing.proofs.Calls.{not-deleted, undone}
use Rattle.undoing.proofs.delete_undone.Goals as goal
use Rattle.undoing.proofs.delete_undone.Goals.{After-sfs_delete_keep-refusal}

deletes : (c : After-sfs_delete_keep-refusal) → DeletesKeeping c.args.image.now c.args.path.now c.args.stamp c.sfs_delete_keep-refusal.result c.sfs_delete_keep-refusal.new.image
deletes c = c.sfs_delete_keep-refusal.ensures ∙ ap (delete_keep_of c.args.image.now c.args.path.now) (to_z-of_z w64 c.args.stamp c.ranges.stamp)

pub returns-then-refusal-ne0 : goal.returns-then-refusal-ne0
returns-then-refusal-ne0 c = not-deleted _ _ _ _ _ (deletes (goal.at.returns-then-refusal-ne0 c).After-sfs_delete_keep-refusal) c.if-refusal-ne0.true

pub returns : goal.returns
returns c =
    undone _ _ _ _ _ _ c.sfs_find-found.result _ _ (λ i. (c.slice_known-1.given i).fits) c.sfs_find-found.ensures (deletes (goal.at.returns c).After-sfs_delete_keep-refusal)
    (to_z-of_z w64 _ (record { sfits = c.struct_told-1.given.1.1.1.1.1.1.0.1 })) c.sfs_restore.ensures
