-- Laws of the super-block: what a good geometry says, and what is read back of one that was written.
use Rattle.std.specs.Prelude.{ℕ, zero, suc, ◌+◌, ◌-◌, ◌*◌, ◌%◌, ◌^◌, ◌≤◌, ◌<◌, ◌≡◌, Bool, true, false, List, [], ◌∷◌, ◌++◌, length, take, eqb, ℤ, pos, negsuc}
use Rattle.std.proofs.Math.Path.{refl, sym, ap}
use Rattle.std.proofs.Common.{◌∙◌, arith, add_assoc, zero-mul, add-mul, mul-le-mul_left, mul-le-mul_right, le-mul_of_pos_right, div-mul-le_self, pow_mono, pow_pos, length-append, take_all, le-leb, leb-true, eq-eqb, eqb-true}
use Rattle.std.proofs.Math.Option.{Option, none, some}
use Rattle.std.specs.Int.Signed.{mag}
use Rattle.rules.specs.Lists.{pick, part}
use Rattle.rules.specs.Lists.Laws.{pick_true, pick-false, and-true, part-part, part-append}
use Rattle.rules.specs.Fields.{byte_at, le, le_bytes, splice, stamp_in, stamp_bytes, signed_of, bits_of, checksum_of, checks}
use Rattle.rules.specs.Fields.Laws.{le-1, length-le_bytes, le-le_bytes, length-splice, byte_le, le-part, le-append-before, le-append-after, le-between, part-splice-before, part-splice-after, part-splice-from, checks-sealed}
use Rattle.rules.specs.Fields.Signed.{bits_of-lt, signed_of-mag, signed-bits, bits-signed}
use Rattle.rules.specs.Dates.{floor_mod}
use Rattle.rules.specs.Index.Walk.{pick-both}
use Rattle.rules.specs.Editions.{Edition, super_block_at}
use Rattle.rules.specs.SuperBlock.{Geometry, geometry_of, block_bytes, block_length, ceiling_block, data_end, index_good, geometry_good, field_of, grow_index, with_index, with_data, extend_data, trim_data, with_stamp, restamp, sizes_bytes, summed_bytes, super_block_bytes, put_sizes, magic, magic_at, version_at, block_field_at, sealed_length, most_index_bytes, total_at}

-- ---- a good geometry
pub record GoodGeometry (n : ℕ) (g : Geometry) : Type 0 where
  pub field-low : 1 ≤ g.block_field
  pub field-high : g.block_field ≤ 5
  pub whole : g.total * block_length g ≡ n
  pub reserved-covers : 512 ≤ g.reserved * block_length g
  pub reserved-low : g.reserved + 2 ≤ g.total
  pub index-low : 128 ≤ g.index_bytes
  pub index-high : g.index_bytes ≤ most_index_bytes
  pub index-slots : g.index_bytes % 64 ≡ 0
  pub index-fits : g.index_bytes ≤ n
  pub data-fits : data_end g ≤ ceiling_block n g

pub geometry-good : (n : ℕ) (g : Geometry) → geometry_good n g ≡ true → GoodGeometry n g
unfolding geometry_good index_good
geometry-good n g e =
    let p₈ = and-true _ _ e in
    let p₇ = and-true _ _ p₈.0 in
    let p₆ = and-true _ _ p₇.0 in
    let p₅ = and-true _ _ p₆.0 in
    let p₄ = and-true _ _ p₅.0 in
    let p₃ = and-true _ _ p₄.0 in
    let p₂ = and-true _ _ p₃.0 in
    let i₂ = and-true _ _ p₆.1 in
    let i₁ = and-true _ _ i₂.0 in
    record {
      field-low = leb-true _ _ p₂.0;
      field-high = leb-true _ _ p₂.1;
      whole = eqb-true _ _ p₃.1;
      reserved-covers = leb-true _ _ p₄.1;
      reserved-low = leb-true _ _ p₅.1;
      index-low = leb-true _ _ i₁.0;
      index-high = leb-true _ _ i₁.1;
      index-slots = eqb-true _ _ i₂.1;
      index-fits = leb-true _ _ p₇.1;
      data-fits = leb-true _ _ p₈.1;
    }

pub good-geometry : (n : ℕ) (g : Geometry) → GoodGeometry n g → geometry_good n g ≡ true
unfolding geometry_good index_good
good-geometry n g h =
    rw (le-leb _ _ h.field-low, le-leb _ _ h.field-high, eq-eqb _ _ h.whole, le-leb _ _ h.reserved-covers, le-leb _ _ h.reserved-low, le-leb _ _ h.index-low, le-leb _ _ h.index-high, eq-eqb _ _ h.index-slots, le-leb _ _ h.index-fits, le-leb _ _ h.data-fits)

-- ---- what follows of one
pub block-bounds : (b : ℕ) → 1 ≤ b → b ≤ 5 → (256 ≤ block_bytes b) × (block_bytes b ≤ 4096)
unfolding block_bytes
block-bounds b l h = (pow_mono {i = 8} {j = b + 7} (omega arith), pow_mono {i = b + 7} {j = 12} (omega arith))

pub block-pos : (b : ℕ) → 0 < block_bytes b
unfolding block_bytes
block-pos b = pow_pos (b + 7)

-- files end before the index area
pub ceiling-fits : (n : ℕ) (g : Geometry) → g.index_bytes ≤ n → ceiling_block n g * block_length g + g.index_bytes ≤ n
unfolding ceiling_block
ceiling-fits n g h = omega (arith, div-mul-le_self (n - g.index_bytes) (block_length g))

module _ (n : ℕ) (g : Geometry) (good : GoodGeometry n g) where
  pub block-low : 256 ≤ block_length g
  unfolding block_length
  block-low = (block-bounds g.block_field good.field-low good.field-high).0

  pub areas-fit : data_end g * block_length g + g.index_bytes ≤ n
  areas-fit = omega (arith, mul-le-mul_right (block_length g) good.data-fits, ceiling-fits n g good.index-fits)

  pub reserved-pos : 1 ≤ g.reserved
  reserved-pos = go g.reserved good.reserved-covers
    where
      go : (r : ℕ) → 512 ≤ r * block_length g → 1 ≤ r
      go zero h = absurd (omega (arith, zero-mul (block_length g)))
      go (suc r) h = omega arith

  -- two blocks at least are not reserved
  pub blocks-past : (g.reserved + 2) * block_length g ≤ n
  blocks-past = rw (← good.whole) (mul-le-mul_right (block_length g) good.reserved-low)

  pub length-least : 1024 ≤ n
  length-least = omega (arith, blocks-past, add-mul g.reserved 2 (block_length g), good.reserved-covers, block-low)

-- ---- fields that hold their numbers
pub record FieldsFit (g : Geometry) : Type 0 where
  pub data-fit : g.data_blocks < 2 ^ 64
  pub index-fit : g.index_bytes < 2 ^ 64
  pub total-fit : g.total < 2 ^ 64
  pub reserved-fit : g.reserved < 2 ^ 32

-- the fields of a good geometry do
pub good-fit : (n : ℕ) (g : Geometry) → GoodGeometry n g → n ≤ 16_777_216 → FieldsFit g
unfolding data_end
good-fit n g good h =
    let b = block-low n g good in
    let d : data_end g ≤ data_end g * block_length g = le-mul_of_pos_right (data_end g) (omega arith) in
    let t : g.total ≤ g.total * block_length g = le-mul_of_pos_right g.total (omega arith) in
    let a = areas-fit n g good in
    record {
      data-fit = omega arith;
      index-fit = omega (arith, good.index-fits);
      total-fit = omega (arith, good.whole);
      reserved-fit = omega arith;
    }

-- an image has 65,536 blocks at most
pub few-blocks : (n : ℕ) (g : Geometry) → GoodGeometry n g → n ≤ 16_777_216 → g.total ≤ 65_536
few-blocks n g good h = omega (arith, good.whole, mul-le-mul_left g.total (block-low n g good))

-- ---- how long it is as stored
pub length-sizes : (g : Geometry) → length (sizes_bytes g) ≡ 24
unfolding sizes_bytes stamp_bytes
length-sizes g = simp (length-append, length-le_bytes)

pub length-summed : (g : Geometry) → length (summed_bytes g) ≡ 17
unfolding summed_bytes
length-summed g = simp (length-append, length-le_bytes)

pub length-super : (g : Geometry) → length (super_block_bytes g) ≡ 42
unfolding super_block_bytes
length-super g = simp (length-append, length-sizes, length-summed)

-- ---- a stamp as it is stored
bits-modulo : (z : ℤ) → bits_of z ≡ floor_mod z (2 ^ 64)
unfolding bits_of floor_mod
bits-modulo (pos n) = refl
bits-modulo (negsuc n) = refl

unfoldable pub stored_stamp : ℤ → ℤ
stored_stamp z = stamp_in (stamp_bytes z) 0

stored-bits : (z : ℤ) → stored_stamp z ≡ signed_of (bits_of z)
unfolding stored_stamp stamp_in stamp_bytes
stored-bits z = ap signed_of (le-le_bytes 8 (bits_of z) (bits_of-lt z))

-- a number of 64 bits is read as it was written
pub stored-stamp : (z : ℤ) → mag z < 2 ^ 63 → stored_stamp z ≡ z
stored-stamp z h = stored-bits z ∙ signed-bits z h

-- and any other as the number of 64 bits that is the same modulo 2 ^ 64
pub stored-modulo : (z : ℤ) → (mag (stored_stamp z) < 2 ^ 63) × (floor_mod (stored_stamp z) (2 ^ 64) ≡ floor_mod z (2 ^ 64))
stored-modulo z =
    rw (stored-bits z)
    (signed_of-mag (bits_of z) (bits_of-lt z), sym (bits-modulo (signed_of (bits_of z))) ∙ bits-signed (bits_of z) (bits_of-lt z) ∙ bits-modulo z)

-- the geometry that is read of one that was written
unfoldable pub as_stored : Geometry → Geometry
as_stored g = with_stamp g (stored_stamp g.stamp)

-- it differs in nothing else, and is as good
pub stored-good : (n : ℕ) (g : Geometry) → geometry_good n (as_stored g) ≡ geometry_good n g
unfolding geometry_good as_stored with_stamp block_length data_end ceiling_block
stored-good n g = refl

pub stored-block : (g : Geometry) → block_length (as_stored g) ≡ block_length g
unfolding as_stored with_stamp block_length
stored-block g = refl

pub stored-index : (g : Geometry) → (as_stored g).index_bytes ≡ g.index_bytes
unfolding as_stored with_stamp
stored-index g = refl

pub stored-edition : (g : Geometry) → (as_stored g).edition ≡ g.edition
unfolding as_stored with_stamp
stored-edition g = refl

pub good-stored : (n : ℕ) (g : Geometry) → GoodGeometry n g → GoodGeometry n (as_stored g)
good-stored n g h = geometry-good n (as_stored g) (stored-good n g ∙ good-geometry n g h)

-- ---- the numbers in it
module _ (g : Geometry) where
  sizes-stamp : le 8 (sizes_bytes g) 0 ≡ le 8 (stamp_bytes g.stamp) 0
  unfolding sizes_bytes stamp_bytes
  sizes-stamp = le-append-before 8 (le_bytes 8 (bits_of g.stamp)) (le_bytes 8 g.data_blocks ++ le_bytes 8 g.index_bytes) 0 (rw length-le_bytes (omega arith))

  sizes-data : g.data_blocks < 2 ^ 64 → le 8 (sizes_bytes g) 8 ≡ g.data_blocks
  unfolding sizes_bytes stamp_bytes
  sizes-data h = le-between 8 g.data_blocks (le_bytes 8 (bits_of g.stamp)) (le_bytes 8 g.index_bytes) 8 (length-le_bytes 8 _) h

  sizes-index : g.index_bytes < 2 ^ 64 → le 8 (sizes_bytes g) 16 ≡ g.index_bytes
  unfolding sizes_bytes stamp_bytes
  sizes-index h =
      le-append-after 8 (le_bytes 8 (bits_of g.stamp)) (le_bytes 8 g.data_blocks ++ le_bytes 8 g.index_bytes) 8 8 (length-le_bytes 8 _)
      ∙ le-append-after 8 (le_bytes 8 g.data_blocks) (le_bytes 8 g.index_bytes) 8 0 (length-le_bytes 8 _)
      ∙ le-le_bytes 8 g.index_bytes h

  summed-version : le 1 (summed_bytes g) 3 ≡ g.version
  unfolding summed_bytes
  summed-version = le-1 _ 3

  summed-total : g.total < 2 ^ 64 → le 8 (summed_bytes g) 4 ≡ g.total
  unfolding summed_bytes
  summed-total h = le-between 8 g.total (magic ++ (g.version ∷ [])) (le_bytes 4 g.reserved ++ (g.block_field ∷ [])) 4 refl h

  -- what stands behind the total
  summed-behind : (w o : ℕ) → le w (summed_bytes g) (12 + o) ≡ le w (le_bytes 4 g.reserved ++ (g.block_field ∷ [])) o
  unfolding summed_bytes
  summed-behind w o =
      ap (le w (summed_bytes g)) (add_assoc 4 8 o)
      ∙ le-append-after w (magic ++ (g.version ∷ [])) (le_bytes 8 g.total ++ (le_bytes 4 g.reserved ++ (g.block_field ∷ []))) 4 (8 + o) refl
      ∙ le-append-after w (le_bytes 8 g.total) (le_bytes 4 g.reserved ++ (g.block_field ∷ [])) 8 o (length-le_bytes 8 _)

  summed-reserved : g.reserved < 2 ^ 32 → le 4 (summed_bytes g) 12 ≡ g.reserved
  summed-reserved h = summed-behind 4 0 ∙ le-between 4 g.reserved [] (g.block_field ∷ []) 0 refl h

  summed-field : le 1 (summed_bytes g) 16 ≡ g.block_field
  summed-field = summed-behind 1 4 ∙ le-append-after 1 (le_bytes 4 g.reserved) (g.block_field ∷ []) 4 0 (length-le_bytes 4 _) ∙ le-1 _ 0

pub le-here : (w : ℕ) (t : List ℕ) (n : ℕ) → le w t n ≡ le w t (n + 0)
le-here w t n = let e : n ≡ n + 0 = omega arith in ap (le w t) e

-- ---- an image whose super-block begins with these sizes, and r behind them
module _ (t : List ℕ) (g : Geometry) (r : List ℕ) (here : part t (super_block_at g.edition) 42 ≡ sizes_bytes g ++ r) where
  read-sizes : (w o : ℕ) → o + w ≤ 24 → le w t ((super_block_at g.edition) + o) ≡ le w (sizes_bytes g) o
  read-sizes w o h =
      sym (le-part w t (super_block_at g.edition) 42 o (omega arith))
      ∙ ap (λ (p : List ℕ). le w p o) here
      ∙ le-append-before w (sizes_bytes g) r o (omega (arith, length-sizes g))

  read-rest : (w o : ℕ) → o + w ≤ 18 → le w t ((magic_at g.edition) + o) ≡ le w r o
  read-rest w o h =
      sym (le-part w t (super_block_at g.edition) 42 (24 + o) (omega arith) ∙ ap (le w t) (omega arith))
      ∙ ap (λ (p : List ℕ). le w p (24 + o)) here
      ∙ le-append-after w (sizes_bytes g) r 24 o (length-sizes g)

  part-rest : (n : ℕ) → n ≤ 18 → part t (magic_at g.edition) n ≡ take n r
  part-rest n h =
      sym (part-part t (super_block_at g.edition) 42 24 n (omega arith))
      ∙ ap (λ (p : List ℕ). part p 24 n) here
      ∙ part-append (sizes_bytes g) r 24 n (length-sizes g)

  pub geometry-read : g.data_blocks < 2 ^ 64 → g.index_bytes < 2 ^ 64
      → le 1 r 3 ≡ g.version → le 8 r 4 ≡ g.total → le 4 r 12 ≡ g.reserved → le 1 r 16 ≡ g.block_field
      → geometry_of g.edition t ≡ as_stored g
  unfolding geometry_of as_stored with_stamp stored_stamp stamp_in
  geometry-read d i v n k b =
      rw (
        byte_le t (version_at g.edition),
        byte_le t (block_field_at g.edition),
        le-here 8 t _ ∙ read-sizes 8 0 (omega arith) ∙ sizes-stamp g,
        read-sizes 8 8 (omega arith) ∙ sizes-data g d,
        read-sizes 8 16 (omega arith) ∙ sizes-index g i,
        read-rest 1 3 (omega arith) ∙ v,
        read-rest 8 4 (omega arith) ∙ n,
        read-rest 4 12 (omega arith) ∙ k,
        read-rest 1 16 (omega arith) ∙ b,
      )

-- ---- an image in which a whole super-block stands
-- what its checksum seals, and the checksum
unfoldable pub sealed_bytes : Geometry → List ℕ
sealed_bytes g = summed_bytes g ++ (checksum_of (summed_bytes g) ∷ [])

pub length-sealed : (g : Geometry) → length (sealed_bytes g) ≡ 18
unfolding sealed_bytes
length-sealed g = simp (length-append, length-summed)

pub sealed-checks : (g : Geometry) → checks (sealed_bytes g) ≡ true
unfolding sealed_bytes
sealed-checks g = checks-sealed (summed_bytes g)

module _ (t : List ℕ) (g : Geometry) (here : part t (super_block_at g.edition) 42 ≡ super_block_bytes g) where
  behind : part t (super_block_at g.edition) 42 ≡ sizes_bytes g ++ sealed_bytes g
  unfolding sealed_bytes super_block_bytes
  behind = here

  read-summed : (w o : ℕ) → o + w ≤ 17 → le w (sealed_bytes g) o ≡ le w (summed_bytes g) o
  unfolding sealed_bytes
  read-summed w o h = le-append-before w (summed_bytes g) (checksum_of (summed_bytes g) ∷ []) o (omega (arith, length-summed g))

  -- its geometry reads as it was written
  pub written-geometry : FieldsFit g → geometry_of g.edition t ≡ as_stored g
  written-geometry fit =
      geometry-read t g (sealed_bytes g) behind fit.data-fit fit.index-fit
      (read-summed 1 3 (omega arith) ∙ summed-version g)
      (read-summed 8 4 (omega arith) ∙ summed-total g fit.total-fit)
      (read-summed 4 12 (omega arith) ∙ summed-reserved g fit.reserved-fit)
      (read-summed 1 16 (omega arith) ∙ summed-field g)

  pub written-total : g.total < 2 ^ 64 → le 8 t (total_at g.edition) ≡ g.total
  written-total h = read-rest t g (sealed_bytes g) behind 8 4 (omega arith) ∙ read-summed 8 4 (omega arith) ∙ summed-total g h

  pub written-version : byte_at t (version_at g.edition) ≡ g.version
  written-version = byte_le t (version_at g.edition) ∙ read-rest t g (sealed_bytes g) behind 1 3 (omega arith) ∙ read-summed 1 3 (omega arith) ∙ summed-version g

  pub written-sealed : part t (magic_at g.edition) sealed_length ≡ sealed_bytes g
  written-sealed = part-rest t g (sealed_bytes g) behind 18 (omega arith) ∙ take_all 18 (sealed_bytes g) (omega (arith, length-sealed g))

  pub written-magic : part t (magic_at g.edition) 3 ≡ magic
  unfolding sealed_bytes summed_bytes
  written-magic = part-rest t g (sealed_bytes g) behind 3 (omega arith)

-- ---- what is read of it depends on its bytes alone
-- the fields that the checksum seals: no call changes them but a format
pub record SameSealed (g h : Geometry) : Type 0 where
  pub edition-same : g.edition ≡ h.edition
  pub version-same : g.version ≡ h.version
  pub total-same : g.total ≡ h.total
  pub reserved-same : g.reserved ≡ h.reserved
  pub field-same : g.block_field ≡ h.block_field

pub same_self : (g : Geometry) → SameSealed g g
same_self g = record { edition-same = refl; version-same = refl; total-same = refl; reserved-same = refl; field-same = refl }

-- they stay where the sizes and the stamp change
module _ (g h : Geometry) (same : SameSealed g h) where
  same_kept : (z : ℤ) (d i : ℕ)
      → SameSealed (record { edition = g.edition; stamp = z; data_blocks = d; index_bytes = i; version = g.version; total = g.total; reserved = g.reserved; block_field = g.block_field }) h
  same_kept z d i = record { edition-same = same.edition-same; version-same = same.version-same; total-same = same.total-same; reserved-same = same.reserved-same; field-same = same.field-same }

  pub same-grow : (bytes : ℕ) → SameSealed (grow_index g bytes) h
  unfolding grow_index with_index
  same-grow bytes = same_kept _ _ _

  pub same-extend : (end : ℕ) → SameSealed (extend_data g end) h
  unfolding extend_data with_data
  same-extend end = same_kept _ _ _

  pub same-trim : (end : ℕ) → SameSealed (trim_data g end) h
  unfolding trim_data with_data
  same-trim end = same_kept _ _ _

  pub same-restamp : (old : Geometry) (z : ℤ) → SameSealed (restamp old g z) h
  unfolding restamp with_stamp
  same-restamp old z = pick-both (λ k. SameSealed k h) _ g _ same (same_kept _ _ _)

-- a number in a part that two images share
shared : (w : ℕ) (s t : List ℕ) (at n o : ℕ) → part s at n ≡ part t at n → o + w ≤ n → le w s (at + o) ≡ le w t (at + o)
shared w s t at n o e h = sym (le-part w s at n o h) ∙ ap (λ (p : List ℕ). le w p o) e ∙ le-part w t at n o h

pub sealed-same : (ed : Edition) (s t : List ℕ) → part s (magic_at ed) sealed_length ≡ part t (magic_at ed) sealed_length → SameSealed (geometry_of ed s) (geometry_of ed t)
unfolding geometry_of
sealed-same ed s t e = record {
  edition-same = refl;
  version-same = byte_le s (version_at ed) ∙ shared 1 s t (magic_at ed) 18 3 e (omega arith) ∙ sym (byte_le t (version_at ed));
  total-same = shared 8 s t (magic_at ed) 18 4 e (omega arith);
  reserved-same = shared 4 s t (magic_at ed) 18 12 e (omega arith);
  field-same = byte_le s (block_field_at ed) ∙ shared 1 s t (magic_at ed) 18 16 e (omega arith) ∙ sym (byte_le t (block_field_at ed));
}

module _ (ed : Edition) (s t : List ℕ) (same : part s (super_block_at ed) 42 ≡ part t (super_block_at ed) 42) where
  pub sealed-part : part s (magic_at ed) sealed_length ≡ part t (magic_at ed) sealed_length
  sealed-part = sym (part-part s (super_block_at ed) 42 24 18 (omega arith)) ∙ ap (λ (p : List ℕ). part p 24 18) same ∙ part-part t (super_block_at ed) 42 24 18 (omega arith)

  pub geometry-same : geometry_of ed s ≡ geometry_of ed t
  unfolding geometry_of stamp_in
  geometry-same =
      let b = sealed-same ed s t sealed-part in
      rw (
        le-here 8 s _ ∙ shared 8 s t (super_block_at ed) 42 0 same (omega arith) ∙ sym (le-here 8 t _),
        shared 8 s t (super_block_at ed) 42 8 same (omega arith),
        shared 8 s t (super_block_at ed) 42 16 same (omega arith),
        b.version-same,
        b.total-same,
        b.reserved-same,
        b.field-same,
      )

-- a writing at or past its end leaves it
pub super-frame : (ed : Edition) (s : List ℕ) (at : ℕ) (bs : List ℕ) → (super_block_at ed) + 42 ≤ at → at + length bs ≤ length s → part (splice s at bs) (super_block_at ed) 42 ≡ part s (super_block_at ed) 42
super-frame ed s at bs l h = part-splice-before s at bs h (super_block_at ed) 42 l

-- ---- sizes written
module _ (s : List ℕ) (g : Geometry) (room : (super_block_at g.edition) + 42 ≤ length s) where
  sizes-room : (super_block_at g.edition) + length (sizes_bytes g) ≤ length s
  sizes-room = omega (arith, length-sizes g)

  pub length-put_sizes : length (put_sizes s g) ≡ length s
  unfolding put_sizes
  length-put_sizes = length-splice s (super_block_at g.edition) (sizes_bytes g) sizes-room

  -- all else is left
  pub put_sizes-before : (a n : ℕ) → a + n ≤ (super_block_at g.edition) → part (put_sizes s g) a n ≡ part s a n
  unfolding put_sizes
  put_sizes-before a n h = part-splice-before s (super_block_at g.edition) (sizes_bytes g) sizes-room a n h

  pub put_sizes-after : (a n : ℕ) → (magic_at g.edition) ≤ a → part (put_sizes s g) a n ≡ part s a n
  unfolding put_sizes
  put_sizes-after a n h = part-splice-after s (super_block_at g.edition) (sizes_bytes g) sizes-room a n (omega (arith, length-sizes g))

  put_sizes-here : part (put_sizes s g) (super_block_at g.edition) 42 ≡ sizes_bytes g ++ part s (magic_at g.edition) 18
  unfolding put_sizes
  put_sizes-here = rw length-sizes at (part-splice-from s (super_block_at g.edition) (sizes_bytes g) sizes-room 18)

  -- where only the sizes and the stamp differ, all of the geometry is then g's
  pub put_sizes-geometry : g.data_blocks < 2 ^ 64 → g.index_bytes < 2 ^ 64 → SameSealed g (geometry_of g.edition s) → geometry_of g.edition (put_sizes s g) ≡ as_stored g
  unfolding geometry_of
  put_sizes-geometry d i same =
      geometry-read (put_sizes s g) g (part s (magic_at g.edition) 18) put_sizes-here d i
      (le-part 1 s (magic_at g.edition) 18 3 (omega arith) ∙ sym (byte_le s (version_at g.edition)) ∙ sym same.version-same)
      (le-part 8 s (magic_at g.edition) 18 4 (omega arith) ∙ sym same.total-same)
      (le-part 4 s (magic_at g.edition) 18 12 (omega arith) ∙ sym same.reserved-same)
      (le-part 1 s (magic_at g.edition) 18 16 (omega arith) ∙ sym (byte_le s (block_field_at g.edition)) ∙ sym same.field-same)

-- ---- the field of a number of bytes per block
some_is : {x y : ℕ} → some x ≡ some y → x ≡ y
some_is e = cc

none_is : {X : Type 0} {y : ℕ} → none ≡ some y → X
none_is e = let z : ◌≡◌ {A = ℕ} 0 1 = cc in absurd (omega arith)

field_step : (n k x b : ℕ) (o : Option ℕ)
    → (n ≡ k → (1 ≤ x) × (x ≤ 5) × (block_bytes x ≡ n))
    → (o ≡ some b → (1 ≤ b) × (b ≤ 5) × (block_bytes b ≡ n))
    → pick (eqb n k) (some x) o ≡ some b → (1 ≤ b) × (b ≤ 5) × (block_bytes b ≡ n)
field_step n k x b o here later e = go (eqb n k) refl
  where
    go : (t : Bool) → eqb n k ≡ t → (1 ≤ b) × (b ≤ 5) × (block_bytes b ≡ n)
    go true p = let z : x ≡ b = some_is (sym (pick_true _ _ p) ∙ e) in rw z at (here (eqb-true n k p))
    go false p = later (sym (pick-false _ _ p) ∙ e)

pub field_is : (n b : ℕ) → field_of n ≡ some b → (1 ≤ b) × (b ≤ 5) × (block_bytes b ≡ n)
unfolding field_of block_bytes
field_is n b e =
    field_step n 256 1 b _ (λ p. (omega arith, omega arith, sym p))
    (field_step n 512 2 b _ (λ p. (omega arith, omega arith, sym p))
    (field_step n 1024 3 b _ (λ p. (omega arith, omega arith, sym p))
    (field_step n 2048 4 b _ (λ p. (omega arith, omega arith, sym p))
    (field_step n 4096 5 b none (λ p. (omega arith, omega arith, sym p)) (λ f. none_is f)))))
    e
