use mathlib.Core.Path.{◌≡◌}
use Rattle.rules.specs.Lists.{only}
use Rattle.rules.specs.Paths.{live_from}
use Rattle.index.specs.View.{SumsFrom, Behind}
use Rattle.index.specs.Steps.{Walks, entries_from}
use Rattle.paths.proofs.next_live.Given as goal

abbrev pub invariant-loop-next : goal.invariant-loop-next
invariant-loop-next l = Walks l.img l.c × (only (live_from l.slot.0) (entries_from l.img l.c) ≡ only (live_from l.slot.0) (entries_from l.img l.initial.c)) × Behind l.initial.c l.c × SumsFrom l.img l.sums l.c

abbrev pub decreases-loop-next : goal.decreases-loop-next
decreases-loop-next l = l.c.left
