-- 02, K6: the test for shared blocks over a lent table of regions. Their bounds are judged before.
use Rattle.std.specs.Prelude.{ℕ, Bool, true, false, List, [], ◌∷◌, ◌++◌, map, length, drop, eqb, ltb, leb}
use Rattle.rules.specs.Lists.{pick, all, only, every_two}
use Rattle.rules.specs.Index.{Entry, items_of, entries_of, index_sound}
use Rattle.rules.specs.Regions.{Extent, extent_of, region_good, apart}
use Rattle.rules.specs.Refusals.{Verdict, refused, accepted, need, and_then, judge_geometry}

-- the regions of one block or more, of live files, deleted files and unusable entries, their ends exclusive in either edition; an empty file and a directory have none
unfoldable pub regions_of : List Entry → List Extent
regions_of es = map extent_of (only (λ e. ltb e.start e.end) es)

-- ---- in order
-- by start, then end
unfoldable pub extent_le : Extent → Extent → Bool
extent_le a b = pick (eqb a.start b.start) (leb a.end b.end) (ltb a.start b.start)

-- one more among regions in order
unfoldable pub inserted : Extent → List Extent → List Extent
inserted x [] = x ∷ []
inserted x (y ∷ ys) = pick (extent_le x y) (x ∷ y ∷ ys) (y ∷ inserted x ys)

unfoldable pub in_order : List Extent → List Extent
in_order [] = []
in_order (x ∷ xs) = inserted x (in_order xs)

-- ---- the test
-- yes, no two share a block, is 0; no is refusal 7
unfoldable pub apart_number : Bool → ℕ
apart_number true = 0
apart_number false = 7

-- the answer, how many regions now stand in the table, and the table
pub record Tabled : Type 0 where
  pub answer : ℕ
  pub regions : ℕ
  pub table : List Extent

-- what is refused leaves the table as it was
unfoldable pub untabled : ℕ → List Extent → Tabled
untabled n table = record { answer = n; regions = 0; table = table }

-- with too few places 18; else yes or no, the regions in order at the first places, and the others as they were
unfoldable pub tabled : List Entry → List Extent → Tabled
tabled es table =
    let xs = in_order (regions_of es) in
    pick (ltb (length table) (length xs)) (untabled 18 table)
    (record { answer = apart_number (every_two apart es); regions = length xs; table = xs ++ drop (length xs) table })

-- ---- of an image
-- its entries, where each region is good by itself: 1 to 6, and of 7 all but that two share a block
unfoldable pub judge_bounds : List ℕ → Verdict (List Entry)
judge_bounds s =
    and_then (judge_geometry s) (λ g.
    need (index_sound s g (items_of s g)) 6
    (need (all (region_good g) (entries_of (items_of s g))) 7
    (accepted (entries_of (items_of s g)))))

unfoldable pub table_by : Verdict (List Entry) → List Extent → Tabled
table_by (refused n) table = untabled n table
table_by (accepted es) table = tabled es table

unfoldable pub table_of : List ℕ → List Extent → Tabled
table_of s table = table_by (judge_bounds s) table

-- the answer without a table
unfoldable pub sharing_by : Verdict (List Entry) → ℕ
sharing_by (refused n) = n
sharing_by (accepted es) = apart_number (every_two apart es)

unfoldable pub sharing_of : List ℕ → ℕ
sharing_of s = sharing_by (judge_bounds s)
