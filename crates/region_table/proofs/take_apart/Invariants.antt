use Rattle.std.proofs.Common.{◌≡◌, map, take}
use Rattle.std.proofs.Math.Seq.{paste}
use Rattle.ordering.specs.Regions.{extent_key}
use Rattle.region_table.specs.View.{extent_view}
use Rattle.region_table.proofs.take_apart.Given as goal

-- From first on stand the keys of i regions, and the others are as they were.
abbrev pub invariant-loop-i : goal.invariant-loop-i
invariant-loop-i l = l.keys ≡ paste l.fn.keys l.first (map extent_key (take l.n (map extent_view l.table))) l.i
