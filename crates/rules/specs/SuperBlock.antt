-- 01, "Sizes" and "Super-block": where the fields are, the geometry, and when it is good.
use Rattle.std.specs.Prelude.{ℕ, ◌+◌, ◌-◌, ◌*◌, ◌/◌, ◌%◌, ◌^◌, max, Bool, ◌&&◌, List, [], ◌∷◌, ◌++◌, eqb, leb, ℤ}
use Rattle.std.proofs.Math.Option.{Option, none, some}
use Rattle.rules.specs.Lists.{pick}
use Rattle.rules.specs.Fields.{byte_at, le, le_bytes, splice, stamp_in, stamp_bytes, checksum_of}
use Rattle.rules.specs.Editions.{Edition, super_block_at, version_written}
pub mod Laws

-- an image has 512 to 16,777,216 bytes
unfoldable pub length_good : ℕ → Bool
length_good n = leb 512 n && leb n 16_777_216

-- the places of the fields, of edition 1.0 and of 1.10
abbrev pub data_at : Edition → ℕ
data_at ed = super_block_at ed + 8  -- 0x19C, 0x196

abbrev pub index_at : Edition → ℕ
index_at ed = super_block_at ed + 16  -- 0x1A4, 0x19E

abbrev pub magic_at : Edition → ℕ
magic_at ed = super_block_at ed + 24  -- 0x1AC, 0x1A6

abbrev pub version_at : Edition → ℕ
version_at ed = magic_at ed + 3  -- 0x1AF, 0x1A9

abbrev pub total_at : Edition → ℕ
total_at ed = magic_at ed + 4  -- 0x1B0, 0x1AA

abbrev pub reserved_at : Edition → ℕ
reserved_at ed = magic_at ed + 12  -- 0x1B8, 0x1B2

abbrev pub block_field_at : Edition → ℕ
block_field_at ed = magic_at ed + 16  -- 0x1BC, 0x1B6

-- the bytes from the magic on are summed, to 0x1BD or 0x1B7; the last of them is the checksum
abbrev pub sealed_length : ℕ
sealed_length = 18

abbrev pub magic : List ℕ
magic = 0x53 ∷ 0x46 ∷ 0x53 ∷ []

-- what all calls share
pub record Geometry : Type 0 where
  pub edition : Edition
  pub stamp : ℤ  -- when a size last changed
  pub data_blocks : ℕ  -- data area, in blocks
  pub index_bytes : ℕ  -- index area, in bytes
  pub version : ℕ
  pub total : ℕ  -- blocks
  pub reserved : ℕ  -- blocks, the super-block's own among them
  pub block_field : ℕ  -- 01's b

-- a 1.0 volume of a version above 0x10 may only be read
unfoldable pub writable : Geometry → Bool
writable g = version_written g.edition g.version

unfoldable pub geometry_of : Edition → List ℕ → Geometry
geometry_of ed s = record {
  edition = ed;
  stamp = stamp_in s (super_block_at ed);
  data_blocks = le 8 s (data_at ed);
  index_bytes = le 8 s (index_at ed);
  version = byte_at s (version_at ed);
  total = le 8 s (total_at ed);
  reserved = le 4 s (reserved_at ed);
  block_field = byte_at s (block_field_at ed);
}

-- a block has 2 ^ (b + 7) bytes
unfoldable pub block_bytes : ℕ → ℕ
block_bytes b = 2 ^ (b + 7)

unfoldable pub block_length : Geometry → ℕ
block_length g = block_bytes g.block_field

-- 01's ceiling block of an image of n bytes: the first block that files may not reach
unfoldable pub ceiling_block : ℕ → Geometry → ℕ
ceiling_block n g = (n - g.index_bytes) / block_length g

-- the first block past the data area
unfoldable pub data_end : Geometry → ℕ
data_end g = g.reserved + g.data_blocks

-- an index area has 128 to 262,144 bytes, in slots of 64
abbrev pub most_index_bytes : ℕ
most_index_bytes = 262_144

unfoldable pub index_good : ℕ → Bool
index_good i = leb 128 i && leb i most_index_bytes && eqb (i % 64) 0

-- a good geometry of an image of n bytes
unfoldable pub geometry_good : ℕ → Geometry → Bool
geometry_good n g =
    leb 1 g.block_field
    && leb g.block_field 5
    && eqb (g.total * block_length g) n
    && leb 512 (g.reserved * block_length g)
    && leb (g.reserved + 2) g.total
    && index_good g.index_bytes
    && leb g.index_bytes n
    && leb (data_end g) (ceiling_block n g)

-- ---- the stored block size field of a number of bytes per block
unfoldable pub field_of : ℕ → Option ℕ
field_of n =
    pick (eqb n 256) (some 1)
    (pick (eqb n 512) (some 2)
    (pick (eqb n 1024) (some 3)
    (pick (eqb n 2048) (some 4)
    (pick (eqb n 4096) (some 5) none))))

-- ---- a new geometry from an old one, all else in it equal
unfoldable pub with_index : Geometry → ℕ → Geometry
with_index g i = record {
  edition = g.edition;
  stamp = g.stamp;
  data_blocks = g.data_blocks;
  index_bytes = i;
  version = g.version;
  total = g.total;
  reserved = g.reserved;
  block_field = g.block_field;
}

unfoldable pub with_data : Geometry → ℕ → Geometry
with_data g d = record {
  edition = g.edition;
  stamp = g.stamp;
  data_blocks = d;
  index_bytes = g.index_bytes;
  version = g.version;
  total = g.total;
  reserved = g.reserved;
  block_field = g.block_field;
}

unfoldable pub with_stamp : Geometry → ℤ → Geometry
with_stamp g t = record {
  edition = g.edition;
  stamp = t;
  data_blocks = g.data_blocks;
  index_bytes = g.index_bytes;
  version = g.version;
  total = g.total;
  reserved = g.reserved;
  block_field = g.block_field;
}

-- growing the index by so many bytes
unfoldable pub grow_index : Geometry → ℕ → Geometry
grow_index g bytes = with_index g (g.index_bytes + bytes)

-- moving the data area's end, so that blocks up to `end` are in it: it never shrinks
unfoldable pub extend_data : Geometry → ℕ → Geometry
extend_data g end = with_data g (max g.data_blocks (end - g.reserved))

-- trimming it, so that it ends at `end`
unfoldable pub trim_data : Geometry → ℕ → Geometry
trim_data g end = with_data g (end - g.reserved)

-- the stamp changes exactly when a size changed
unfoldable pub restamp : Geometry → Geometry → ℤ → Geometry
restamp old new t =
    pick (eqb old.index_bytes new.index_bytes && eqb old.data_blocks new.data_blocks) new (with_stamp new t)

-- ---- as it is stored
-- stamp and sizes, up to the magic
unfoldable pub sizes_bytes : Geometry → List ℕ
sizes_bytes g = stamp_bytes g.stamp ++ (le_bytes 8 g.data_blocks ++ le_bytes 8 g.index_bytes)

-- magic to block size field
unfoldable pub summed_bytes : Geometry → List ℕ
summed_bytes g = magic ++ (g.version ∷ (le_bytes 8 g.total ++ (le_bytes 4 g.reserved ++ (g.block_field ∷ []))))

-- the whole super-block, 42 bytes
unfoldable pub super_block_bytes : Geometry → List ℕ
super_block_bytes g = sizes_bytes g ++ (summed_bytes g ++ (checksum_of (summed_bytes g) ∷ []))

-- an image with these sizes and this stamp
unfoldable pub put_sizes : List ℕ → Geometry → List ℕ
put_sizes s g = splice s (super_block_at g.edition) (sizes_bytes g)
