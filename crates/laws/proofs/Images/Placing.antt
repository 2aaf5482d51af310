-- Where a create puts its run, and the geometry that it then writes: good, with the same blocks, and large enough. Assumes nothing.
use Prim.Native.Nat.{ℕ, ◌+◌, ◌*◌, ◌≤◌}
use mathlib.Core.Path.{◌≡◌, refl, sym, ap, subst, ◌∙◌}
use mathlib.Core.Bool.{Bool, true, false}
use mathlib.Core.List.{List, [], ◌++◌, append-nil}
use mathlib.Core.Option.{Option, none, some}
use mathlib.Core.Logic.{◌⊎◌, inl, inr}
use native.Mathlib.Omega.{arith}
use lib.ListN.{length, drop}
use lib.Dec.{leb}
use lib.IntN.{ℤ}
use borrow.Author.Tests.{leb-true}
use Rattle.rules.specs.Lists.{pick}
use Rattle.rules.specs.Lists.Laws.{and-true}
use Rattle.rules.specs.Editions.{keeps_deleted}
use Rattle.rules.specs.SuperBlock.{Geometry, ceiling_block, data_end, grow_index, with_index, with_data, extend_data, restamp}
use Rattle.rules.specs.SuperBlock.Laws.{GoodGeometry, SameSealed, same_self, same-grow, same-extend, same-restamp}
use Rattle.rules.specs.Index.{inner_slots, slot_at, slot_bytes}
use Rattle.rules.specs.Index.Walk.{walk_all}
use Rattle.rules.specs.Refusals.{Volume}
use Rattle.rules.specs.Refusals.Laws.{Opens}
use Rattle.rules.specs.Writing.{lowest_unused, Place, may_grow, grown_place, place_from, places_for, place_run}
use Rattle.laws.proofs.Lists.Parts.{some_same, none-some}
use Rattle.laws.proofs.Index.Items.{slots_in, slots_in-append, NoFault, IsTidy}
use Rattle.laws.proofs.Index.Walks.{slots-all, keeps-tidy}
use Rattle.laws.proofs.Index.Slots.{items-walk, inner-slots}
use Rattle.laws.proofs.Index.Unused.{UnusedRun, lowest-split, places-first}
use Rattle.laws.proofs.Entries.Regions.{extend-keeps, extend-covers, extend_fits}
use Rattle.laws.proofs.Index.Ends.{ends-good}
use Rattle.laws.proofs.Images.Sizes.{restamp-index, restamp-end, ceiling-same, good-sizes}

-- ---- what is placed
-- the geometry after it, h the one after any growth of the index
abbrev pub new_geometry : Geometry → Geometry → ℕ → ℤ → Geometry
new_geometry g h end stamp = restamp g (extend_data h end) stamp

-- ---- where the run goes
-- to unused slots of the index as it is
pub record AtUnused (v : Volume) (path : List ℕ) (slots : ℕ) (p : Place) : Type 0 where
  pub found : lowest_unused slots (places_for v.geometry.edition path v.items) ≡ some p.slot
  pub geometry-is : p.geometry ≡ v.geometry

-- to the front of the index, which grows by it
pub record AtFront (n : ℕ) (v : Volume) (slots : ℕ) (p : Place) : Type 0 where
  pub slot_is : p.slot ≡ 1
  pub geometry-is : p.geometry ≡ grow_index v.geometry (slot_bytes * slots)
  pub index-high : p.geometry.index_bytes ≤ 262_144
  pub data-fits : data_end p.geometry ≤ ceiling_block n p.geometry

abbrev pub Placed : ℕ → Volume → List ℕ → ℕ → Place → Type 0
Placed n v path slots p = AtUnused v path slots p ⊎ AtFront n v slots p

grown-by : (n : ℕ) (v : Volume) (slots : ℕ) (p : Place) (h : Geometry) → h ≡ grow_index v.geometry (slot_bytes * slots) → (b : Bool) → may_grow n h ≡ b
    → pick b (some (record { slot = 1; geometry = h })) none ≡ some p → AtFront n v slots p
unfolding pick may_grow
grown-by n v slots p h g false e q = none-some p q
grown-by n v slots p h g true e q =
    let i : record { slot = 1; geometry = h } ≡ p = some_same _ p q in
    let m = and-true (leb h.index_bytes 262_144) (leb (data_end h) (ceiling_block n h)) e in
    rw (← i) (record { slot_is = refl; geometry-is = g; index-high = leb-true h.index_bytes 262_144 m.0; data-fits = leb-true (data_end h) (ceiling_block n h) m.1 })

pub run-place : (n : ℕ) (v : Volume) (path : List ℕ) (slots : ℕ) (p : Place) → place_run n v path slots ≡ some p → Placed n v path slots p
unfolding place_run place_from grown_place
run-place n v path slots p e = go (lowest_unused slots (places_for v.geometry.edition path v.items)) refl e
  where
    go : (o : Option ℕ) → lowest_unused slots (places_for v.geometry.edition path v.items) ≡ o → place_from n v.geometry slots o ≡ some p → Placed n v path slots p
    go none l q = inr (grown-by n v slots p (grow_index v.geometry (slot_bytes * slots)) refl (may_grow n (grow_index v.geometry (slot_bytes * slots))) refl q)
    go (some k) l q =
        let i : record { slot = k; geometry = v.geometry } ≡ p = some_same _ p q in
        inl (rw (← i) (record { found = l; geometry-is = refl }))

pub grown-index : (g : Geometry) (k : ℕ) → (grow_index g k).index_bytes ≡ g.index_bytes + k
unfolding grow_index with_index
grown-index g k = refl

-- behind the marker and before the identifier
pub record RunFits (slots : ℕ) (p : Place) : Type 0 where
  pub low : 1 ≤ p.slot
  pub high : slot_bytes * (p.slot + slots + 1) ≤ p.geometry.index_bytes

module _ (s : List ℕ) (v : Volume) (o : Opens s v) where
  walked : v.items ≡ walk_all v.geometry.edition (inner_slots v.geometry) 1 (drop (slot_at s v.geometry 1) s)
  walked = o.items-are ∙ items-walk s v.geometry

  sound : NoFault v.items
  sound = (ends-good s v.geometry v.items o.index-sound).1

  -- nothing is left over where deleted entries are kept
  pub opens-tidy : keeps_deleted v.geometry.edition ≡ true → IsTidy v.items
  opens-tidy keeps = keeps-tidy v.geometry.edition keeps _ _ _ v.items [] (sym walked ∙ sym (append-nil v.items)) sound

  -- the unused slots among the items
  pub unused-room : (path : List ℕ) (slots k : ℕ) → lowest_unused slots (places_for v.geometry.edition path v.items) ≡ some k → UnusedRun slots 1 k v.items
  unused-room path slots k f =
      let h = places-first v.geometry.edition path v.items in
      subst (UnusedRun slots 1 k) (sym h.1)
      (lowest-split v.geometry.edition slots (inner_slots v.geometry) 1 (drop (slot_at s v.geometry 1) s) (places_for v.geometry.edition path v.items) h.0 k
      (sym walked ∙ h.1) f)

  room-slots : (slots k : ℕ) (r : UnusedRun slots 1 k v.items) → slots_in r.pre + slots ≤ inner_slots v.geometry
  room-slots slots k r =
      let all_of : slots_in v.items ≡ inner_slots v.geometry = rw walked (slots-all v.geometry.edition (inner_slots v.geometry) 1 (drop (slot_at s v.geometry 1) s) (rw walked at sound)) in
      omega (arith, all_of, ap slots_in r.split, slots_in-append r.pre (r.mid ++ r.post), slots_in-append r.mid r.post, r.gap.room)

  pub run_inside : (path : List ℕ) (slots : ℕ) (p : Place) → Placed (length s) v path slots p → RunFits slots p
  run_inside path slots p (inl a) =
      let r = unused-room path slots p.slot a.found in
      record {
        low = omega (arith, r.place);
        high = omega (arith, r.place, room-slots slots p.slot r, inner-slots v.geometry, o.geometry-good.index-low, ap (λ (h : Geometry). h.index_bytes) a.geometry-is);
      }
  run_inside path slots p (inr a) = record {
    low = omega (arith, a.slot_is);
    high = omega (arith, a.slot_is, o.geometry-good.index-low, ap (λ (h : Geometry). h.index_bytes) a.geometry-is, grown-index v.geometry (slot_bytes * slots));
  }

-- ---- the geometry after any growth of the index
-- h is good in an image of n bytes, and of the blocks and data area of g
pub record Grown (n : ℕ) (g h : Geometry) : Type 0 where
  pub good : GoodGeometry n h
  pub same : SameSealed h g
  pub data-same : data_end h ≡ data_end g

grown-end : (g : Geometry) (k : ℕ) → data_end (grow_index g k) ≡ data_end g
unfolding data_end grow_index with_index
grown-end g k = refl

pub place-grown : (n : ℕ) (v : Volume) (path : List ℕ) (slots : ℕ) (p : Place) → GoodGeometry n v.geometry → Placed n v path slots p
    → Grown n v.geometry p.geometry
place-grown n v path slots p o (inl a) = rw a.geometry-is (record { good = o; same = same_self v.geometry; data-same = refl })
place-grown n v path slots p o (inr a) =
    let g = v.geometry in
    let i : p.geometry.index_bytes ≡ g.index_bytes + slot_bytes * slots = ap (λ (h : Geometry). h.index_bytes) a.geometry-is ∙ grown-index g (slot_bytes * slots) in
    let same : SameSealed p.geometry g = rw a.geometry-is (same-grow g g (same_self g) (slot_bytes * slots)) in
    record {
      good = good-sizes n g p.geometry o same (omega (arith, o.index-low)) a.index-high (omega (arith, o.index-slots)) a.data-fits;
      same = same;
      data-same = rw a.geometry-is (grown-end g (slot_bytes * slots));
    }

-- ---- as it is written
-- w is good, of the blocks of g and the index of h, and its data area holds that of g and the blocks up to `end`
pub record Sizes (n : ℕ) (g h : Geometry) (end : ℕ) (w : Geometry) : Type 0 where
  pub good : GoodGeometry n w
  pub same : SameSealed w g
  pub index_same : w.index_bytes ≡ h.index_bytes
  pub keeps : data_end g ≤ data_end w
  pub covers : end ≤ data_end w

extend-index : (g : Geometry) (end : ℕ) → (extend_data g end).index_bytes ≡ g.index_bytes
unfolding extend_data with_data
extend-index g end = refl

pub new-sizes : (n : ℕ) (g h : Geometry) (end : ℕ) (z : ℤ) → Grown n g h → end ≤ ceiling_block n h → Sizes n g h end (new_geometry g h end z)
new-sizes n g h end z k fits =
    let w : Geometry = new_geometry g h end z in
    let o = k.good in
    let e : data_end w ≡ data_end (extend_data h end) = restamp-end g (extend_data h end) z in
    let i : w.index_bytes ≡ h.index_bytes = restamp-index g (extend_data h end) z ∙ extend-index h end in
    let same : SameSealed w h = same-restamp (extend_data h end) h (same-extend h h (same_self h) end) g z in
    let c : ceiling_block n w ≡ ceiling_block n h = ceiling-same h w same n i in
    record {
      good = good-sizes n h w o same (omega (arith, o.index-low)) (omega (arith, o.index-high)) (rw i o.index-slots)
          (omega (arith, extend_fits h end (ceiling_block n h) o.data-fits fits));
      same = same-restamp (extend_data h end) g (same-extend h g k.same end) g z;
      index_same = i;
      keeps = omega (arith, k.data-same, extend-keeps h end);
      covers = omega (arith, extend-covers h end);
    }
