use mathlib.Core.Path.{◌≡◌}
use lib.ListN.{length, drop}
use Rattle.ordering.specs.Regions.{free_from}
use Rattle.free_runs.proofs.free_from.Given as goal

-- The regions that are left stop the search from b as all of them stop that from the first block.
abbrev pub invariant-loop-key : goal.invariant-loop-key
invariant-loop-key l =
    free_from l.k l.b.0 (drop (length l.yielded) (drop l.from l.keys)) ≡ free_from l.k l.initial.b.0 (drop l.from l.keys)
