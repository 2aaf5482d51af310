use mathlib.Core.Path.{◌≡◌}
use lib.ListN.{length}
use Rattle.index.specs.View.{SumsFrom}
use Rattle.path_rules.specs.Gathering.{GatheringLive}
use Rattle.path_rules.proofs.gather.Given as goal

abbrev pub invariant-loop-here : goal.invariant-loop-here
invariant-loop-here l = (length l.keys ≡ length l.initial.keys) × GatheringLive l.img l.from l.keys l.c l.i × SumsFrom l.img l.sums l.c

abbrev pub decreases-loop-here : goal.decreases-loop-here
decreases-loop-here l = l.c.left
