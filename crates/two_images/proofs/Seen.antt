-- The index area says the items.
use Prim.Native.Nat.{ℕ, ◌-◌}
use mathlib.Core.Path.{◌≡◌}
use mathlib.Core.List.{List}
use lib.ListN.{length, drop}
use Rattle.rules.specs.SuperBlock.{Geometry}
use Rattle.rules.specs.Index.{items_of}
use Rattle.laws.proofs.Index.Slots.{slot-first, items-area}

pub items-same : (s t : List ℕ) (g : Geometry) → drop (length s - g.index_bytes) s ≡ drop (length t - g.index_bytes) t → items_of s g ≡ items_of t g
items-same s t g same = items-area t s g (rw (slot-first s g, slot-first t g) same)
