-- The code's regions and answers in the rules' words.
use Rattle.std.specs.Prelude.{ℕ, ◌-◌, ◌≤◌, ◌≡◌, List, ◌++◌, map, length, take, drop, Result, Ok, Err}
use Rattle.rules.specs.Lists.{All}
use Rattle.rules.specs.Regions.{Extent}
use Rattle.rules.specs.RegionTable.{Tabled, in_order, apart_number, untabled, table_of}
use Rattle.ordering.specs.Regions.{extents_in_turn}
use Rattle.ordering.specs.Tables.{key_extent, SmallExtent}
use Rattle.region_table.specs.declared.Region.{Region}
use Rattle.region_table.specs.declared.TableAnswer.{TableAnswer}
use Rattle.refusals.specs.declared.Refusal.{Refusal}
use Rattle.refusals.specs.View.{number_of}

abbrev pub extent_view : Region → Extent
extent_view r = record { start = r.start.0; end = r.end.0 }

-- ---- tables
-- the regions of the last n keys
abbrev pub last_regions : ℕ → List ℕ → List Extent
last_regions n keys = map key_extent (drop (length keys - n) keys)

-- a table whose first n places are these, and the others as they were
unfoldable pub laid : ℕ → List ℕ → List Extent → List Extent
laid n keys table = last_regions n keys ++ drop n table

-- one whose first n places are put in order
unfoldable pub ordered : ℕ → List Extent → List Extent
ordered n table = in_order (take n table) ++ drop n table

-- ---- answers
-- an answer beside the table that it leaves
abbrev pub tabled_view : TableAnswer → List Extent → Tabled
tabled_view a table = record { answer = a.answer; regions = a.regions; table = table }

abbrev pub answered : ℕ → ℕ → TableAnswer
answered n k = record { answer = n; regions = k }

-- of n regions xs: in order and compared they make what the test makes of a table
abbrev pub Makes : List ℕ → List Extent → ℕ → List Extent → Type 0
Makes s table n xs = tabled_view (answered (apart_number (extents_in_turn 0 (in_order xs))) n) (in_order xs ++ drop n table) ≡ table_of s table

-- ---- what is known on the way
-- n regions, before the table is filled
pub record PreparedFor (s keys : List ℕ) (places n : ℕ) : Type 0 where
  pub makes : (table : List Extent) → length table ≡ places → Makes s table n (last_regions n keys)
  pub fits : n ≤ places
  pub few : n ≤ length keys
  pub small : All SmallExtent (last_regions n keys)

-- these, or a refusal, which leaves each table of so many places as it was
unfoldable pub Prepared : List ℕ → List ℕ → ℕ → Result ℕ Refusal → Type 0
Prepared s keys places (Err e) = (table : List Extent) → length table ≡ places → table_of s table ≡ untabled (number_of e) table
Prepared s keys places (Ok n) = PreparedFor s keys places n

-- what can be put in order
pub record Orderable (n : ℕ) (table : List Extent) : Type 0 where
  pub fits : n ≤ length table
  pub few : n ≤ 4_094
  pub small : All SmallExtent (take n table)

-- n regions, once they are laid into it
pub record Filled (s : List ℕ) (before after : List Extent) (n : ℕ) : Type 0 where
  pub orderable : Orderable n after
  pub makes : Makes s before n (take n after)
  pub others : drop n after ≡ drop n before

-- once it is filled, or left as it was
unfoldable pub TableFilled : List ℕ → List Extent → List Extent → Result ℕ Refusal → Type 0
TableFilled s before after (Err e) = (after ≡ before) × (table_of s before ≡ untabled (number_of e) before)
TableFilled s before after (Ok n) = Filled s before after n

module _ (s keys : List ℕ) (places : ℕ) (r : Result ℕ Refusal) (p : Prepared s keys places r) where
  pub prepared-err : (e : Refusal) → r ≡ Err e → (table : List Extent) → length table ≡ places → table_of s table ≡ untabled (number_of e) table
  unfolding Prepared
  prepared-err e i = rw i at p

  pub prepared-ok : (n : ℕ) → r ≡ Ok n → PreparedFor s keys places n
  unfolding Prepared
  prepared-ok n i = rw i at p

module _ (s : List ℕ) (before after : List Extent) (r : Result ℕ Refusal) (f : TableFilled s before after r) where
  pub filled-err : (e : Refusal) → r ≡ Err e → (after ≡ before) × (table_of s before ≡ untabled (number_of e) before)
  unfolding TableFilled
  filled-err e i = rw i at f

  pub filled-ok : (n : ℕ) → r ≡ Ok n → Filled s before after n
  unfolding TableFilled
  filled-ok n i = rw i at f
