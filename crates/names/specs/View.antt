-- What was read of a part, as the automaton numbers it.
use Rattle.std.specs.Prelude.{ℕ, ◌<◌, Option, Some, None}
use native.Mathlib.Omega.{arith}
use Rattle.names.specs.declared.Part.{Part}
use Rattle.names.specs.declared.Part.TheVariants.{Nothing, Dot, Dots, Other}

abbrev pub part_view : Part → ℕ
part_view Nothing = 0
part_view Dot = 1
part_view Dots = 2
part_view Other = 3

-- an earlier part was not good, where there is none
abbrev pub stepped_view : Option Part → ℕ
stepped_view (Some p) = part_view p
stepped_view None = 4

pub part-below : (p : Part) → part_view p < 4
part-below Nothing = omega arith
part-below Dot = omega arith
part-below Dots = omega arith
part-below Other = omega arith
