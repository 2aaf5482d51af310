use Prim.Native.Nat.{◌-◌}
use lib.ListN.{length}
use Rattle.names.specs.Reader.{PathAt}
use Rattle.names.specs.View.{part_view}
use Rattle.names.proofs.path_in.Given as goal

-- What is left up to the zero decides, from where the reader and the part stand, as the whole does.
abbrev pub invariant-loop-i : goal.invariant-loop-i
invariant-loop-i l = PathAt l.s l.reader (part_view l.part) l.i

abbrev pub decreases-loop-i : goal.decreases-loop-i
decreases-loop-i l = length l.s - l.i
