-- A write between the start marker and the volume identifier: super-block, data area and both ends of the index area are kept.
use Prim.Native.Nat.{ℕ, ◌+◌, ◌≤◌}
use mathlib.Core.Path.{◌≡◌, refl, sym, ◌∙◌}
use mathlib.Core.Bool.{true}
use mathlib.Core.List.{List}
use mathlib.Core.Logic.{inl, inr}
use native.Mathlib.Omega.{arith}
use lib.ListN.{length}
use lib.IntN.{ℤ}
use Rattle.rules.specs.Fields.{splice}
use Rattle.rules.specs.SuperBlock.{Geometry}
use Rattle.rules.specs.SuperBlock.Laws.{GoodGeometry}
use Rattle.rules.specs.Index.{Item, items_of, entries_of, identifier_at, slot_at, slot_bytes, stamp_at, retyped}
use Rattle.rules.specs.Regions.{regions_sound}
use Rattle.rules.specs.Paths.{paths_sound}
use Rattle.rules.specs.Refusals.Laws.{GoodSuper, Opens, super-opens}
use Rattle.laws.proofs.Lists.Spans.{SameBut, but-splice, but-wider, but-then, but-part}
use Rattle.laws.proofs.Index.Items.{NoFault}
use Rattle.laws.proofs.Index.Slots.{slot-at, slot_same, identifier-at}
use Rattle.laws.proofs.Index.Ends.{ends_good, good-ends, ends_same}
use Rattle.laws.proofs.Index.Retyped.{retyped-written}
use Rattle.laws.proofs.Images.Kept.{Between, super-kept, between-kept}
use Rattle.laws.proofs.Images.Areas.{index-start}

abbrev pub Inner : List ℕ → List ℕ → Geometry → Type 0
Inner s t g = SameBut (slot_at s g 1) (identifier_at s) s t

-- it depends on the index area's size alone
pub inner-index : (s t : List ℕ) (g h : Geometry) → h.index_bytes ≡ g.index_bytes → Inner s t g → Inner s t h
inner-index s t g h index i = rw (slot_same s s g h refl index 1) i

-- one after the other
pub inner-then : (s t u : List ℕ) (g : Geometry) → Inner s t g → Inner t u g → Inner s u g
inner-then s t u g i j =
    let e : slot_at t g 1 ≡ slot_at s g 1 = slot_same s t g g i.long refl 1 in
    let d : identifier_at t ≡ identifier_at s = identifier-at t ∙ rw i.long (sym (identifier-at s)) in
    but-then i (rw (e, d) at j)

module _ (s : List ℕ) (g : Geometry) (at : ℕ) (low : slot_at s g 1 ≤ at) where
  pub inner-splice : (bs : List ℕ) → at + length bs ≤ identifier_at s → Inner s (splice s at bs) g
  inner-splice bs high = but-wider (but-splice s at bs (omega (arith, identifier-at s))) (slot_at s g 1) (identifier_at s) low high

  pub inner-retyped : (kind : ℕ) (stamp : ℤ) → at + stamp_at g.edition + 8 ≤ identifier_at s → Inner s (retyped g.edition s at kind stamp) g
  inner-retyped kind stamp high = but-wider (retyped-written g.edition s at kind stamp (omega (arith, identifier-at s))) (slot_at s g 1) (identifier_at s) low high

-- ---- what it keeps
module _ (s t : List ℕ) (g : Geometry) (good : GoodGeometry (length s) g) (i : Inner s t g) where
  pub inner-between : Between s t g
  inner-between = between-kept i g (inr (omega (arith, slot-at s g 1)))

  pub inner-super : (h : Geometry) → GoodSuper s h → GoodSuper t h
  inner-super h = super-kept i h (omega (arith, slot-at s g 1, index-start s g good))

  pub inner-ends : ends_good t g ≡ ends_good s g
  inner-ends = ends_same s t g g i.long refl refl (but-part i (slot_at s g 0) slot_bytes (inl (omega (arith, slot-at s g 0, slot-at s g 1)))) i.back

  -- so the image opens, where its index is sound afterwards
  pub inner-opens : (is : List Item) → GoodSuper s g → ends_good s g ≡ true → items_of t g ≡ is → NoFault is → regions_sound g (entries_of is) ≡ true → paths_sound (entries_of is) ≡ true
      → Opens t (record { geometry = g; items = is })
  inner-opens is o e q f r p =
      super-opens t (record { geometry = g; items = is }) (inner-super g o) (sym q) (good-ends t g is (inner-ends ∙ e) f) r p
