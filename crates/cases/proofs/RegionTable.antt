-- The test for shared blocks over a table, on a few regions.
use Prim.Native.Nat.{ℕ}
use mathlib.Core.Path.{◌≡◌, refl}
use mathlib.Core.List.{List, [], ◌∷◌}
use lib.IntN.{pos}
use Rattle.rules.specs.Index.{Entry, type_file}
use Rattle.rules.specs.Regions.{Extent}
use Rattle.rules.specs.RegionTable.{Tabled, tabled}
use Rattle.cases.proofs.Computing.{everything}

-- a file with the blocks from a up to, not including, b
abbrev file : ℕ → ℕ → Entry
file a b = record { kind = type_file; slot = 1; slots = 1; stamp = pos 0; start = a; end = b; length = 0; path = [] }

abbrev region : ℕ → ℕ → Extent
region a b = record { start = a; end = b }

abbrev told : ℕ → ℕ → List Extent → Tabled
told n k table = record { answer = n; regions = k; table = table }

-- what stood in the table before
abbrev old : Extent
old = region 9 1

-- regions that touch share no block; an empty file has none; the last place is kept
pub touching : tabled (file 7 8 ∷ file 0 0 ∷ file 3 5 ∷ file 5 7 ∷ []) (old ∷ old ∷ old ∷ old ∷ []) ≡ told 0 3 (region 3 5 ∷ region 5 7 ∷ region 7 8 ∷ old ∷ [])
unfolding everything
touching = refl

-- two share block 6: no, and the table is ordered too
pub sharing-one : tabled (file 6 9 ∷ file 5 7 ∷ []) (old ∷ old ∷ []) ≡ told 7 2 (region 5 7 ∷ region 6 9 ∷ [])
unfolding everything
sharing-one = refl

-- of one start, the lower end comes first; one region twice stands twice
pub one-start : tabled (file 5 9 ∷ file 5 7 ∷ file 5 9 ∷ []) (old ∷ old ∷ old ∷ old ∷ []) ≡ told 7 3 (region 5 7 ∷ region 5 9 ∷ region 5 9 ∷ old ∷ [])
unfolding everything
one-start = refl

-- one place too few, whether they share a block or not; and no region at all
pub one-short :
    (tabled (file 6 9 ∷ file 5 7 ∷ []) (old ∷ []) ≡ told 18 0 (old ∷ [])) × (tabled (file 3 5 ∷ file 5 7 ∷ []) (old ∷ []) ≡ told 18 0 (old ∷ []))
    × (tabled (file 3 5 ∷ []) [] ≡ told 18 0 []) × (tabled (file 0 0 ∷ []) [] ≡ told 0 0 [])
unfolding everything
one-short = (refl, refl, refl, refl)
