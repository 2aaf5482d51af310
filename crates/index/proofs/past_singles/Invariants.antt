use Prim.Native.Nat.{ℕ, ◌≤◌}
use mathlib.Core.Path.{◌≡◌}
use Rattle.rules.specs.Writing.{lowest_unused}
use Rattle.index.specs.View.{items_from, Behind}
use Rattle.index.specs.Steps.{Walks}
use Rattle.index.proofs.past_singles.Given as goal

abbrev pub invariant-loop-c : goal.invariant-loop-c
invariant-loop-c l = Walks l.img l.c × (l.c.left ≤ l.initial.c.left) × ((n : ℕ) → 1 ≤ n → lowest_unused n (items_from l.img l.c) ≡ lowest_unused n (items_from l.img l.initial.c)) × Behind l.initial.c l.c

abbrev pub decreases-loop-c : goal.decreases-loop-c
decreases-loop-c l = l.c.left
