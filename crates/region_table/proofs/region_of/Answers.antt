use mathlib.Core.Path.{ap₂}
use Prim.Native.Nat.{ℕ}
use Rattle.ordering.specs.Tables.{key_extent}
use Rattle.region_table.proofs.region_of.Goals as goal

pub returns : goal.returns
unfolding key_extent
returns c = ap₂ (λ (a b : ℕ). record { start = a; end = b }) c.key_start.ensures c.key_end.ensures
