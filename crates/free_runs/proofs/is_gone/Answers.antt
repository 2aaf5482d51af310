use mathlib.Core.Path.{sym, ◌∙◌}
use Rattle.rules.specs.Paths.{is_deleted}
use Rattle.slots.specs.View.{head_view}
use Rattle.free_runs.specs.View.{gone-deleted, gone_at_lem}
use Rattle.free_runs.proofs.is_gone.Goals as goal

pub returns-in-Deleted : goal.returns-in-Deleted
unfolding is_deleted head_view
returns-in-Deleted c s = c.is_deleted.ensures ∙ sym (gone-deleted _ c.in-Deleted.is (head_view s c.args.h))

pub returns-in-At : goal.returns-in-At
unfolding head_view
returns-in-At c s = rw c.eq.ensures (sym (gone_at_lem _ _ c.in-At.is (head_view s c.args.h)))
