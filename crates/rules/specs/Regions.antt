-- 01, "Index area": regions, what they may be, and which blocks are free.
use Rattle.std.specs.Prelude.{ℕ, zero, suc, ◌+◌, ◌-◌, ◌*◌, ◌/◌, ◌≤◌, ◌<◌, ◌≡◌, Bool, true, false, ◌&&◌, ◌||◌, not, List, eqb, ltb, leb}
use Rattle.std.proofs.Math.Option.{Option, none, some}
use Rattle.rules.specs.Lists.{pick, all, any, every_two, first_if, sum, only}
use Rattle.rules.specs.SuperBlock.{Geometry, block_length, data_end}
use Rattle.rules.specs.Index.{Entry, file_type, type_unusable}
pub mod Laws

-- a region is the blocks from start up to, not including, end; a directory has none
pub record Extent : Type 0 where
  pub start : ℕ
  pub end : ℕ

unfoldable pub extent_of : Entry → Extent
extent_of e = record { start = e.start; end = e.end }

unfoldable pub holds : ℕ → Entry → Bool
holds b e = leb e.start b && ltb b e.end

unfoldable pub blocks_of : Entry → ℕ
blocks_of e = e.end - e.start

-- one block or more, in the data area
unfoldable pub within_data : Geometry → Entry → Bool
within_data g e = leb g.reserved e.start && ltb e.start e.end && leb e.end (data_end g)

-- a file's start, end and length are all 0, or the length fits its region in the data area
unfoldable pub file_region_good : Geometry → Entry → Bool
file_region_good g e =
    (eqb e.start 0 && eqb e.end 0 && eqb e.length 0)
    || (within_data g e && leb e.length (blocks_of e * block_length g))

unfoldable pub region_good : Geometry → Entry → Bool
region_good g e = pick (file_type e.kind) (file_region_good g e) (pick (eqb e.kind type_unusable) (within_data g e) true)

-- two regions share no block
unfoldable pub apart : Entry → Entry → Bool
apart e f = leb e.end f.start || leb f.end e.start

-- refusal 7 is for regions that are not sound
unfoldable pub regions_sound : Geometry → List Entry → Bool
regions_sound g es = all (region_good g) es && every_two apart es

-- the blocks of live and deleted files
unfoldable pub held_blocks : List Entry → ℕ
held_blocks es = sum blocks_of (only (λ e. file_type e.kind) es)

-- ---- free runs
-- a block is free when it is in no region
unfoldable pub busy : List Entry → ℕ → Bool
busy es b = any (holds b) es

-- k blocks from b on are free
unfoldable pub run_free : List Entry → ℕ → ℕ → Bool
run_free es b zero = true
run_free es b (suc k) = not (busy es b) && run_free es (suc b) k

-- the lowest of the n starts from b on whose k blocks are free
unfoldable pub lowest_from : List Entry → ℕ → ℕ → ℕ → Option ℕ
lowest_from es k zero b = none
lowest_from es k (suc n) b = let r = lowest_from es k n (suc b) in first_if (run_free es b k) b r

-- the lowest start, at or past `low`, of k free blocks that end at or below `ceiling`
unfoldable pub lowest_free : List Entry → ℕ → ℕ → ℕ → Option ℕ
lowest_free es k low ceiling = lowest_from es k (ceiling + 1 - (low + k)) low

-- what that says (`lowest-run`): k free blocks between `low` and `ceiling`, and no lower start has them; or no start has them
unfoldable pub LowestRun : List Entry → ℕ → ℕ → ℕ → Option ℕ → Type 0
LowestRun es k low ceiling (some b) =
    (low ≤ b) × (b + k ≤ ceiling) × (run_free es b k ≡ true) × ((u : ℕ) → low ≤ u → u < b → run_free es u k ≡ false)
LowestRun es k low ceiling none = (u : ℕ) → low ≤ u → u + k ≤ ceiling → run_free es u k ≡ false

-- the blocks that a file of so many bytes needs
unfoldable pub blocks_needed : ℕ → ℕ → ℕ
blocks_needed block_len bytes = (bytes + block_len - 1) / block_len
