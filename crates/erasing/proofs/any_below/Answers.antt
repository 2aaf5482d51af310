use mathlib.Core.Path.{sym}
use Rattle.slots.specs.View.{head_view}
use Rattle.laws.proofs.Entries.Paths.{file-alone}
use Rattle.erasing.proofs.any_below.Goals as goal

pub returns-then-h-ne-DIRECTORY : goal.returns-then-h-ne-DIRECTORY
unfolding head_view
returns-then-h-ne-DIRECTORY c = let p = c.requires in sym (file-alone _ _ _ p.1 p.2 c.if-h-ne-DIRECTORY.true)
