-- The bytes that find, read and list do not show, and images that differ in them alone.
use Rattle.std.specs.Prelude.{ℕ, ◌+◌, ◌-◌, ◌*◌, ◌≤◌, ◌<◌, ◌≡◌, Bool, ◌&&◌, List, ◌⊎◌, length}
use Rattle.rules.specs.Lists.{only, All}
use Rattle.rules.specs.Fields.{byte_at}
use Rattle.rules.specs.Editions.{super_block_at}
use Rattle.rules.specs.SuperBlock.{Geometry, block_length}
use Rattle.rules.specs.Index.{Entry, file_type}
use Rattle.rules.specs.Paths.{is_live}
use Rattle.rules.specs.Refusals.{accepted, Volume, entries, judge}

abbrev pub live_file : Entry → Bool
live_file e = is_live e && file_type e.kind

-- the byte p is in none of the entry's blocks
abbrev pub OutOfBlocks : Geometry → ℕ → Entry → Type 0
OutOfBlocks g p e = (p < e.start * block_length g) ⊎ (e.end * block_length g ≤ p)

-- the byte p is none of the super-block's fields, the index area and the blocks of live files
pub record Unseen (s : List ℕ) (v : Volume) (p : ℕ) : Type 0 where
  pub fields : (p < super_block_at v.geometry.edition) ⊎ (super_block_at v.geometry.edition + 42 ≤ p)
  pub index : p < length s - v.geometry.index_bytes
  pub files : All (OutOfBlocks v.geometry p) (only live_file (entries v))

-- s opens, and t is like it but for bytes that are unseen
pub record DifferUnseen (s t : List ℕ) : Type 0 where
  pub volume : Volume
  pub opens : judge s ≡ accepted volume
  pub lengths : length s ≡ length t
  pub bytes : (p : ℕ) → p < length s → (byte_at s p ≡ byte_at t p) ⊎ Unseen s volume p
