use mathlib.Core.Path.{◌≡◌}
use Rattle.rules.specs.Lists.{all}
use Rattle.rules.specs.Regions.{region_good}
use Rattle.geometry.specs.View.{geometry_view}
use Rattle.index.specs.View.{SumsFrom}
use Rattle.index.specs.Steps.{Walks, entries_from}
use Rattle.regions.proofs.all_good.Given as goal

-- The entries from the cursor on decide as all of them do.
abbrev pub invariant-loop-e : goal.invariant-loop-e
invariant-loop-e l = Walks l.img l.c × (all (region_good (geometry_view l.g)) (entries_from l.img l.c) ≡ all (region_good (geometry_view l.g)) (entries_from l.img l.initial.c)) × SumsFrom l.img l.sums l.c

abbrev pub decreases-loop-e : goal.decreases-loop-e
decreases-loop-e l = l.c.left
