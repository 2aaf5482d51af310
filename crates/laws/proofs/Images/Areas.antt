-- Where the areas of an image lie, and that a file's bytes lie between the super-block and the index area.
use Prim.Native.Nat.{ℕ, ◌+◌, ◌*◌, ◌≤◌}
use mathlib.Core.Path.{◌≡◌, refl, sym, ◌∙◌}
use mathlib.Core.Bool.{Bool, true, false}
use mathlib.Core.List.{List, []}
use mathlib.Core.Logic.{◌⊎◌, inl, inr}
use native.Mathlib.Omega.{arith}
use native.Mathlib.Nat.{add-mul, mul-le-mul_right}
use lib.ListN.{length}
use Rattle.rules.specs.Lists.{part}
use Rattle.rules.specs.Lists.Laws.{pick_true}
use Rattle.rules.specs.SuperBlock.{Geometry, block_length, data_end}
use Rattle.rules.specs.SuperBlock.Laws.{GoodGeometry, areas-fit}
use Rattle.rules.specs.Index.{Entry, file_type, slot_at, slot_bytes, inner_slots, identifier_at}
use Rattle.rules.specs.Regions.{region_good, blocks_of}
use Rattle.rules.specs.Reading.{file_bytes}
use Rattle.laws.proofs.Entries.Regions.{Within, Regionless, FileRegion, file-says, region-bytes}
use Rattle.laws.proofs.Entries.Walked.{Bare}
use Rattle.laws.proofs.Index.Slots.{slot-at, identifier-at, inner-slots}
use Rattle.laws.proofs.Images.Kept.{Between}

-- ---- the index area
module _ (s : List ℕ) (g : Geometry) where
  pub slot-on : (k : ℕ) → slot_at s g (1 + k) ≡ slot_at s g 1 + slot_bytes * k
  slot-on k = omega (arith, slot-at s g (1 + k), slot-at s g 1)

  module _ (good : GoodGeometry (length s) g) where
    -- it starts past the reserved blocks
    pub index-start : 512 + g.index_bytes ≤ length s
    unfolding data_end
    index-start = omega (arith, areas-fit (length s) g good, good.reserved-covers, add-mul g.reserved g.data_blocks (block_length g))

    -- what lies between the start marker and the volume identifier ends there
    pub inner-end : slot_at s g 1 + slot_bytes * inner_slots g ≡ identifier_at s
    inner-end = omega (arith, slot-at s g 1, identifier-at s, inner-slots g, good.index-low, good.index-slots, good.index-fits)

-- ---- the data area
-- a region's bytes lie between the super-block and the index area
pub record RegionIn (n : ℕ) (g : Geometry) (e : Entry) : Type 0 where
  pub low : 512 ≤ e.start * block_length g
  pub order : e.start * block_length g + blocks_of e * block_length g ≡ e.end * block_length g
  pub high : e.end * block_length g + g.index_bytes ≤ n

pub within_in : (n : ℕ) (g : Geometry) (e : Entry) → GoodGeometry n g → Within g e → RegionIn n g e
within_in n g e good w = record {
  low = omega (arith, mul-le-mul_right (block_length g) w.low, good.reserved-covers);
  order = region-bytes e (block_length g) (omega (arith, w.some));
  high = omega (arith, mul-le-mul_right (block_length g) w.high, areas-fit n g good);
}

-- a file's bytes lie in the image
pub file-inside : (n : ℕ) (g : Geometry) (e : Entry) → GoodGeometry n g → FileRegion g e → e.start * block_length g + e.length ≤ n
file-inside n g e good r =
    omega (arith, r.fits, region-bytes e (block_length g) r.order, mul-le-mul_right (block_length g) r.upper, areas-fit n g good)

-- an entry has no bytes, or they lie in the blocks of its region
pub bytes-in : (g : Geometry) (e : Entry) → Bare e → region_good g e ≡ true → (e.length ≡ 0) ⊎ (Within g e × (e.length ≤ blocks_of e * block_length g))
unfolding region_good
bytes-in g e b r = go (file_type e.kind) refl
  where
    by : (Regionless e × (e.length ≡ 0)) ⊎ (Within g e × (e.length ≤ blocks_of e * block_length g)) → (e.length ≡ 0) ⊎ (Within g e × (e.length ≤ blocks_of e * block_length g))
    by (inl n) = inl n.1
    by (inr w) = inr w

    go : (t : Bool) → file_type e.kind ≡ t → (e.length ≡ 0) ⊎ (Within g e × (e.length ≤ blocks_of e * block_length g))
    go true f = by (file-says g e (sym (pick_true _ _ f) ∙ r))
    go false f = inl (b f)

no_part : (s : List ℕ) (a n : ℕ) → n ≡ 0 → part s a n ≡ []
unfolding part
no_part s a n e = rw e

-- they are kept where all parts of its region are
pub bytes-by : (s t : List ℕ) (g h : Geometry) (e : Entry) → block_length h ≡ block_length g → Bare e → region_good g e ≡ true
    → (Within g e → (p n : ℕ) → e.start * block_length g ≤ p → p + n ≤ e.start * block_length g + blocks_of e * block_length g → part t p n ≡ part s p n)
    → file_bytes t h e ≡ file_bytes s g e
unfolding file_bytes
bytes-by s t g h e block b r same = rw block (go (bytes-in g e b r))
  where
    go : (e.length ≡ 0) ⊎ (Within g e × (e.length ≤ blocks_of e * block_length g)) → part t (e.start * block_length g) e.length ≡ part s (e.start * block_length g) e.length
    go (inl z) = no_part t _ _ z ∙ sym (no_part s _ _ z)
    go (inr (w, l)) = same w _ _ (omega arith) (omega arith)

-- so where the area between super-block and index is
pub bytes-kept : (s t : List ℕ) (g h : Geometry) (e : Entry) → GoodGeometry (length s) g → Between s t g → block_length h ≡ block_length g → Bare e → region_good g e ≡ true
    → file_bytes t h e ≡ file_bytes s g e
bytes-kept s t g h e good same block b r =
    bytes-by s t g h e block b r (λ w p n low high. let i = within_in (length s) g e good w in same p n (omega (arith, i.low)) (omega (arith, i.order, i.high)))
