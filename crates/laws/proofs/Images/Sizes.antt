-- Sizes written to the super-block: the geometry stays good where the data area does not grow, and all else is kept.
use Prim.Native.Nat.{ℕ, ◌+◌, ◌-◌, ◌%◌, ◌≤◌, ◌<◌}
use mathlib.Core.Path.{◌≡◌, refl}
use mathlib.Core.List.{List}
use mathlib.Core.Logic.{inl}
use native.Mathlib.Omega.{arith}
use native.Mathlib.Nat.{mul-le-mul_right, div-mul-le_self}
use lib.ListN.{length, drop}
use lib.IntN.{ℤ}
use Rattle.rules.specs.Editions.{super_block_at}
use Rattle.rules.specs.Editions.Laws.{super-bounds}
use Rattle.rules.specs.SuperBlock.{Geometry, block_length, data_end, ceiling_block, restamp, with_stamp, put_sizes, magic_at}
use Rattle.rules.specs.SuperBlock.Laws.{GoodGeometry, SameSealed, block-low, reserved-pos, length-least, length-put_sizes, put_sizes-before, put_sizes-after}
use Rattle.rules.specs.Index.{slot_at, items_of}
use Rattle.rules.specs.Index.Walk.{pick-both}
use Rattle.laws.proofs.Lists.Spans.{SameBut, but-parts, but-drop}
use Rattle.laws.proofs.Index.Slots.{slot-first}
use Rattle.laws.proofs.Index.Ends.{ends_good}
use Rattle.laws.proofs.Images.Kept.{Between, between-kept, area-ends, area-items}
use Rattle.laws.proofs.Images.Areas.{index-start}

-- ---- a stamp changes no size
module _ (old new : Geometry) (stamp : ℤ) where
  pub restamp-index : (restamp old new stamp).index_bytes ≡ new.index_bytes
  unfolding restamp with_stamp
  restamp-index = pick-both (λ k. k.index_bytes ≡ new.index_bytes) _ new _ refl refl

  pub restamp-end : data_end (restamp old new stamp) ≡ data_end new
  unfolding restamp with_stamp data_end
  restamp-end = pick-both (λ k. data_end k ≡ data_end new) _ new _ refl refl

-- ---- the same blocks
module _ (g h : Geometry) (same : SameSealed h g) where
  pub block_same : block_length h ≡ block_length g
  unfolding block_length
  block_same = rw same.field-same

  pub ceiling-same : (n : ℕ) → h.index_bytes ≡ g.index_bytes → ceiling_block n h ≡ ceiling_block n g
  unfolding ceiling_block
  ceiling-same n index = rw (block_same, index)

-- an index that leaves one block below it is inside the image
index-inside : (n : ℕ) (h : Geometry) → 0 < block_length h → 1 ≤ ceiling_block n h → h.index_bytes ≤ n
unfolding ceiling_block
index-inside n h b c = omega (arith, mul-le-mul_right (block_length h) c, div-mul-le_self (n - h.index_bytes) (block_length h))

-- other sizes of the same blocks are good where both areas have room
pub good-sizes : (n : ℕ) (g h : Geometry) → GoodGeometry n g → SameSealed h g → 128 ≤ h.index_bytes → h.index_bytes ≤ 262_144 → h.index_bytes % 64 ≡ 0
    → data_end h ≤ ceiling_block n h → GoodGeometry n h
unfolding data_end
good-sizes n g h o same low high slots fits =
    let b = block_same g h same in
    record {
      field-low = rw same.field-same o.field-low;
      field-high = rw same.field-same o.field-high;
      whole = rw (b, same.total-same) o.whole;
      reserved-covers = rw (b, same.reserved-same) o.reserved-covers;
      reserved-low = rw (same.reserved-same, same.total-same) o.reserved-low;
      index-low = low;
      index-high = high;
      index-slots = slots;
      index-fits = index-inside n h (omega (arith, block-low n g o)) (omega (arith, reserved-pos n g o, same.reserved-same));
      data-fits = fits;
    }

-- so is a good geometry whose data area ends no later
pub good-shrunk : (g h : Geometry) → SameSealed h g → (n : ℕ) → h.index_bytes ≡ g.index_bytes → data_end h ≤ data_end g → GoodGeometry n g → GoodGeometry n h
good-shrunk g h same n index end good =
    good-sizes n g h good same (omega (arith, good.index-low)) (omega (arith, good.index-high)) (rw index good.index-slots)
    (omega (arith, good.data-fits, ceiling-same g h same n index))

-- ---- an image with other sizes
module _ (s : List ℕ) (g h : Geometry) (good : GoodGeometry (length s) g) where
  room : super_block_at h.edition + 42 ≤ length s
  room = omega (arith, length-least (length s) g good, super-bounds h.edition)

  -- between the stamp and the magic, and nowhere else
  pub sizes-written : SameBut (super_block_at h.edition) (magic_at h.edition) s (put_sizes s h)
  sizes-written = but-parts (super_block_at h.edition) (magic_at h.edition) s (put_sizes s h) (length-put_sizes s h room) (put_sizes-before s h room) (put_sizes-after s h room)

  pub sizes-long : length (put_sizes s h) ≡ length s
  sizes-long = sizes-written.long

  pub sizes-between : (k : Geometry) → Between s (put_sizes s h) k
  sizes-between k = between-kept sizes-written k (inl (omega (arith, super-bounds h.edition)))

  pub sizes-drop : (n : ℕ) → 512 ≤ n → drop n (put_sizes s h) ≡ drop n s
  sizes-drop n low = but-drop sizes-written n (omega (arith, super-bounds h.edition))

  -- and its index, by any geometry of this edition with an index area of this size
  module _ (k : Geometry) (edition : k.edition ≡ g.edition) (index : k.index_bytes ≡ g.index_bytes) where
    area : drop (slot_at s g 0) (put_sizes s h) ≡ drop (slot_at s g 0) s
    area = sizes-drop (slot_at s g 0) (omega (arith, slot-first s g, index-start s g good))

    pub sizes-ends : ends_good (put_sizes s h) k ≡ ends_good s g
    sizes-ends = area-ends s (put_sizes s h) g k (omega (arith, good.index-low)) sizes-long edition index area

    pub sizes-items : items_of (put_sizes s h) k ≡ items_of s g
    sizes-items = area-items s (put_sizes s h) g k (omega (arith, good.index-low)) sizes-long edition index area
