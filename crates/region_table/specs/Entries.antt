-- Where the entries of an index begin.
use Rattle.std.specs.Prelude.{ℕ, ◌≤◌, ◌≡◌, Bool, true, false, List, Option, Some, None}
use Rattle.std.specs.Bool.{then_some}
use Rattle.std.proofs.Math.Path.{sym, ap}
use Rattle.rules.specs.Index.{items_of, entries_of, index_sound}
use Rattle.geometry.specs.declared.Geometry.{Geometry}
use Rattle.geometry.specs.View.{geometry_view}
use Rattle.index.specs.declared.Cursor.{Cursor}
use Rattle.index.specs.View.{Inside, SumsFrom, items_from}
use Rattle.index.specs.Steps.{Walks, entries_from}
use Rattle.super_block.specs.View.{SuperGood, good-judged}
use Rattle.super_block.specs.Ends.{sound-walks}
use Rattle.regions.specs.Bounds.{Bounded, good-bounded}

-- of a sound index: the cursor walks through all its entries
pub record LeadsTo (s : List ℕ) (g : Geometry) (sums : List ℕ) (c : Cursor) : Type 0 where
  pub sound : index_sound s (geometry_view g) (items_of s (geometry_view g)) ≡ true
  pub entries : entries_from s c ≡ entries_of (items_of s (geometry_view g))
  pub bounded : Bounded g
  pub walks : Walks s c
  pub few : c.left ≤ 4_094
  pub summed : SumsFrom s sums c

unfoldable pub Leads : List ℕ → Geometry → List ℕ → Option Cursor → Type 0
Leads s g sums None = index_sound s (geometry_view g) (items_of s (geometry_view g)) ≡ false
Leads s g sums (Some c) = LeadsTo s g sums c

module _ (s : List ℕ) (g : Geometry) (sums : List ℕ) where
  pub leads-to : SuperGood s g → (c : Cursor) → items_from s c ≡ items_of s (geometry_view g) → Inside s c → c.left ≤ 4_094 → SumsFrom s sums c
      → index_sound s (geometry_view g) (items_of s (geometry_view g)) ≡ true → Leads s g sums (Some c)
  unfolding Leads
  leads-to super c items inside few summed sound =
      let j = good-judged s g super in
      record {
        sound = sound;
        entries = ap entries_of items;
        bounded = good-bounded _ g j.good j.short;
        walks = sound-walks s (geometry_view g) c items inside sound;
        few = few;
        summed = summed;
      }

  -- the cursor goes with the test of the index
  pub leads-told : SuperGood s g → (c : Cursor) → items_from s c ≡ items_of s (geometry_view g) → Inside s c → c.left ≤ 4_094 → SumsFrom s sums c
      → (r : Bool) → r ≡ index_sound s (geometry_view g) (items_of s (geometry_view g)) → Leads s g sums (then_some r c)
  unfolding Leads
  leads-told super c items inside few summed true e = leads-to super c items inside few summed (sym e)
  leads-told super c items inside few summed false e = sym e

  module _ (r : Option Cursor) (h : Leads s g sums r) where
    pub first-unsound : r ≡ None → index_sound s (geometry_view g) (items_of s (geometry_view g)) ≡ false
    unfolding Leads
    first-unsound e = rw e at h

    pub first-at : (c : Cursor) → r ≡ Some c → LeadsTo s g sums c
    unfolding Leads
    first-at c e = rw e at h
