-- Request K4: the two editions of the layout. What differs between them is said here, side by side, edition 1.0 first and 1.10 second; all else is said once,
-- over the edition.
use Rattle.std.specs.Prelude.{ℕ, ◌+◌, ◌-◌, Bool, true, false, ◌||◌, List, [], ◌∷◌, eqb, leb}
use Rattle.rules.specs.Lists.{pick}
use Rattle.rules.specs.Fields.{checks, checksum_of}
pub mod Laws

pub data Edition : Type 0 where
  edition10 : Edition
  edition110 : Edition

-- by the edition, one of two
unfoldable pub by_edition : {A : Type 0} → Edition → A → A → A
by_edition edition10 a b = a
by_edition edition110 a b = b

-- the version byte of a fresh volume, by which a caller names the edition
unfoldable pub version_of : Edition → ℕ
version_of ed = by_edition ed 0x10 0x1A

unfoldable pub version_named : ℕ → Bool
version_named v = eqb v (version_of edition10) || eqb v (version_of edition110)

-- meant only where `version_named`
unfoldable pub edition_named : ℕ → Edition
edition_named v = pick (eqb v (version_of edition110)) edition110 edition10

-- ---- the super-block
-- where it starts; its fields follow in the same order
unfoldable pub super_block_at : Edition → ℕ
super_block_at ed = by_edition ed 0x194 0x18E

-- a version that is read: 0x10 and above, or 0x1A alone
unfoldable pub version_read : Edition → ℕ → Bool
version_read ed v = by_edition ed (leb 0x10 v) (eqb v 0x1A)

-- one that is written too: up to 0x10, or any that is read
unfoldable pub version_written : Edition → ℕ → Bool
version_written ed v = by_edition ed (leb v 0x10) true

-- ---- the sum of an entry
-- how many bytes it has, behind the type; a directory's and a file's fields come that much later
unfoldable pub sum_length : Edition → ℕ
sum_length ed = by_edition ed 0 1

-- an entry with its continuing slots has no sum, or sums to 0 modulo 256
unfoldable pub sum_good : Edition → List ℕ → Bool
sum_good ed bytes = by_edition ed true (checks bytes)

-- the byte that makes it so, where the others are these
unfoldable pub sum_of : Edition → List ℕ → List ℕ
sum_of ed others = by_edition ed [] (checksum_of others ∷ [])

-- ---- the end of a region
-- the block past it, as the rules have it, of an end as it is stored: that block, or the last one. No region ends with block 0, which is
-- reserved: an end of 0 is an empty file's.
unfoldable pub past_end : Edition → ℕ → ℕ
past_end ed stored = by_edition ed stored (pick (eqb stored 0) 0 (stored + 1))

-- an end as it is stored and given
unfoldable pub stored_end : Edition → ℕ → ℕ
stored_end ed end = by_edition ed end (end - 1)

-- ---- deleted runs and stray slots
-- deleted entries are entries still, or slots that are unused
unfoldable pub keeps_deleted : Edition → Bool
keeps_deleted ed = by_edition ed true false

-- a stray slot is a fault, or unused
unfoldable pub takes_stray : Edition → Bool
takes_stray ed = by_edition ed false true

-- ---- where a new entry may go
-- anywhere, or only before the entries of its directories
unfoldable pub before_directories : Edition → Bool
before_directories ed = by_edition ed false true
