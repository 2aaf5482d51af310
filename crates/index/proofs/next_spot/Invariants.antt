use mathlib.Core.Path.{◌≡◌}
use Prim.Native.Nat.{◌+◌, ◌*◌, ◌≤◌}
use Rattle.index.specs.View.{SumsFrom}
use Rattle.index.specs.Steps.{Walks, entries_from}
use Rattle.index.proofs.next_spot.Given as goal

abbrev pub invariant-loop-c : goal.invariant-loop-c
invariant-loop-c l = Walks l.img l.c × (l.c.edition ≡ l.initial.c.edition) × (entries_from l.img l.c ≡ entries_from l.img l.initial.c) × (l.initial.c.slot.0 ≤ l.c.slot.0) × (l.c.slot.0 + l.c.left ≡ l.initial.c.slot.0 + l.initial.c.left) × (l.c.at.0 + 64 * l.initial.c.slot.0 ≡ l.initial.c.at.0 + 64 * l.c.slot.0) × SumsFrom l.img l.sums l.c

abbrev pub decreases-loop-c : goal.decreases-loop-c
decreases-loop-c l = l.c.left
