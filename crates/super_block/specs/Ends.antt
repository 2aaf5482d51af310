-- The walk between the two ends of the index, where a program finds it.
use Rattle.std.specs.Prelude.{ℕ, ◌+◌, ◌-◌, ◌/◌, ◌≤◌, ◌≡◌, true, ◌&&◌, List, length}
use Rattle.std.proofs.Common.{sym, ◌∙◌, arith}
use Rattle.rules.specs.Lists.Laws.{and-true}
use Rattle.rules.specs.SuperBlock.{Geometry}
use Rattle.rules.specs.SuperBlock.Laws.{GoodGeometry}
use Rattle.rules.specs.Index.{items_of, identifier_good, marker_good, index_sound}
use Rattle.rules.specs.Index.Items.{faultless}
use Rattle.editions.specs.View.{edition_view}
use Rattle.index.specs.View.{Inside, items_from}
use Rattle.index.specs.Steps.{Walks}
use Rattle.index.specs.declared.Cursor.{Cursor}
use Rattle.laws.proofs.Index.Slots.{slot-at, items-walk, inner-slots}

-- ---- the walk between the ends
module _ (s : List ℕ) (g : Geometry) (c : Cursor) (items : items_from s c ≡ items_of s g) where
  pub sound-by : index_sound s g (items_of s g) ≡ ((marker_good s g && identifier_good g.edition s) && faultless (items_from s c))
  unfolding index_sound faultless
  sound-by = rw (← items)

  -- in a sound index the walk from slot 1 on meets no fault
  pub sound-walks : Inside s c → index_sound s g (items_of s g) ≡ true → Walks s c
  sound-walks i e = record { inside = i; sound = (and-true (marker_good s g && identifier_good g.edition s) (faultless (items_from s c)) (sym sound-by ∙ e)).1 }

pub first-items : (s : List ℕ) (g : Geometry) (c : Cursor)
    → edition_view c.edition ≡ g.edition → c.at.0 ≡ length s - g.index_bytes + 64 → c.slot.0 ≡ 1 → c.left ≡ g.index_bytes / 64 - 2
    → items_from s c ≡ items_of s g
first-items s g c of at slot left = rw (of, at, slot, left) (sym (items-walk s g ∙ rw (slot-at s g 1, inner-slots g)))

pub first-inside : (s : List ℕ) (g : Geometry) (c : Cursor)
    → GoodGeometry (length s) g → length s ≤ 16_777_216
    → c.at.0 ≡ length s - g.index_bytes + 64 → c.slot.0 ≡ 1 → c.left ≡ g.index_bytes / 64 - 2
    → Inside s c
first-inside s g c good short at slot left =
    let i : 128 ≤ g.index_bytes = good.index-low in
    let h : g.index_bytes ≤ length s = good.index-fits in
    record { fits = omega (arith, at, left); short = short; numbers = omega (arith, slot, left) }
