use Prim.Native.Nat.{◌+◌, ◌≤◌}
use mathlib.Core.Path.{◌≡◌}
use lib.ListN.{length}
use Rattle.rules.specs.Lists.{only}
use Rattle.rules.specs.Paths.{is_live}
use Rattle.index.specs.View.{SumsFrom}
use Rattle.index.specs.Steps.{Walks, entries_from}
use Rattle.listing.proofs.count_live.Given as goal

-- no more are live than slots were passed
abbrev pub invariant-loop-h : goal.invariant-loop-h
invariant-loop-h l =
    Walks l.img l.c × (l.live + length (only is_live (entries_from l.img l.c)) ≡ length (only is_live (entries_from l.img l.initial.c))) × (l.live + l.c.left ≤ l.initial.c.left) × SumsFrom l.img l.sums l.c

abbrev pub decreases-loop-h : goal.decreases-loop-h
decreases-loop-h l = l.c.left
