use Rattle.std.proofs.Common.{◌≡◌, map}
use Rattle.std.proofs.Math.Seq.{paste}
use Rattle.region_table.specs.View.{extent_view, last_regions}
use Rattle.region_table.proofs.lay.Given as goal

-- The first i places hold the regions of as many keys, and the others what they held.
abbrev pub invariant-loop-i : goal.invariant-loop-i
invariant-loop-i l = map extent_view l.table ≡ paste (map extent_view l.fn.table) 0 (last_regions l.n l.keys) l.i
