-- The regions at the first n places of a table, as the rules see them.
use Rattle.std.proofs.Common.{ℕ, ◌<◌, ◌≤◌, ◌≡◌, List, map, length, get_or, take, ◌∙◌, arith, get_or-take, length-take-le}
use Rattle.std.proofs.Math.ListN.{get_or-map}
use Rattle.std.proofs.lemmas.List.{length-map}
use Rattle.rules.specs.Regions.{Extent}
use Rattle.region_table.specs.declared.Region.{Region}
use Rattle.region_table.specs.View.{extent_view}

-- what a table gives past its end
abbrev pub none : Region
none = record { start = record { 0 = 0 }; end = record { 0 = 0 } }

abbrev pub front : ℕ → List Region → List Extent
front n ts = take n (map extent_view ts)

pub length_front : (n : ℕ) (ts : List Region) → n ≤ length ts → length (front n ts) ≡ n
length_front n ts l = length-take-le n (map extent_view ts) (omega (arith, length-map ts extent_view))

pub front_at : (n : ℕ) (ts : List Region) (i : ℕ) → i < n → get_or (front n ts) i (extent_view none) ≡ extent_view (get_or ts i none)
front_at n ts i l = get_or-take n (map extent_view ts) i (extent_view none) l ∙ get_or-map extent_view ts i none
