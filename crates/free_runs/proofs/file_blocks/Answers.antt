use mathlib.Core.Path.{sym, ◌∙◌}
use Rattle.rules.specs.Lists.{pick}
use Rattle.rules.specs.Regions.{blocks_of}
use Rattle.slots.specs.View.{head_view}
use Rattle.free_runs.specs.Sums.{file_blocks}
use Rattle.free_runs.proofs.file_blocks.Goals as goal

pub returns-else-is_file : goal.returns-else-is_file
unfolding file_blocks head_view pick
returns-else-is_file c s = rw (sym c.is_file.ensures ∙ c.if-is_file.false)

pub returns-then-is_file : goal.returns-then-is_file
unfolding file_blocks head_view blocks_of pick
returns-then-is_file c s = rw (sym c.is_file.ensures ∙ c.if-is_file.true, ← c.past_end.ensures s) c.blocks_past.ensures
