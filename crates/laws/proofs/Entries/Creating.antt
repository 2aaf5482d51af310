-- The entry that create makes has a fresh region below the ceiling block. Assumes nothing.
use Prim.Native.Nat.{ℕ, zero, suc, ◌+◌, ◌*◌, ◌≤◌, ◌<◌}
use mathlib.Core.Path.{◌≡◌, refl, sym, ap, ◌∙◌}
use mathlib.Core.List.{List}
use mathlib.Core.Option.{some}
use native.Mathlib.Omega.{arith}
use lib.ListN.{length}
use lib.IntN.{ℤ}
use lib.Pow.{pow_pos}
use Rattle.rules.specs.SuperBlock.{Geometry, block_bytes, block_length, ceiling_block, data_end}
use Rattle.rules.specs.Index.{Entry}
use Rattle.rules.specs.Regions.{LowestRun, blocks_needed}
use Rattle.rules.specs.Regions.Laws.{lowest-is, needed-covers, needed-none}
use Rattle.rules.specs.Writing.{New, new_file, new_directory, kind_of, bytes_of, place_file, new_entry, Site}
use Rattle.laws.proofs.Entries.Regions.{Fresh, directory, empty, run}

pub block-pos : (g : Geometry) → 0 < block_length g
unfolding block_length block_bytes
block-pos g = pow_pos (g.block_field + 7)

-- where the blocks are placed
place_none : (n : ℕ) (g : Geometry) (es : List Entry) (start : ℕ) → place_file n g es 0 ≡ some start → start ≡ 0
unfolding place_file
place_none n g es start p = sym cc

place-run : (n : ℕ) (g : Geometry) (es : List Entry) (k start : ℕ) → place_file n g es (suc k) ≡ some start → LowestRun es (suc k) g.reserved (ceiling_block n g) (some start)
unfolding place_file
place-run n g es k start p = lowest-is es (suc k) g.reserved (ceiling_block n g) (some start) p

pub place-fits : (n : ℕ) (g : Geometry) (es : List Entry) (blocks start : ℕ) → place_file n g es blocks ≡ some start → start + blocks ≤ ceiling_block n g
unfolding LowestRun
place-fits n g es zero start p = omega (arith, place_none n g es start p)
place-fits n g es (suc k) start p = (place-run n g es k start p).1

-- g is the geometry after any growth of the index
pub new-fresh : (n : ℕ) (g : Geometry) (site : Site) (es : List Entry) (new : New) (path : List ℕ) (stamp : ℤ) (blocks : ℕ)
    → site.end ≡ site.start + blocks → blocks ≡ blocks_needed (block_length site.new) (length (bytes_of new)) → place_file n g es blocks ≡ some site.start
    → site.new.reserved ≡ g.reserved → site.end ≤ data_end site.new → Fresh site.new es (new_entry site new path stamp)
unfolding LowestRun new_entry kind_of bytes_of
new-fresh n g site es (new_file bytes) path stamp zero e b p r f =
    let l : length bytes ≤ 0 * block_length site.new = rw (← b) at (needed-covers (block_length site.new) (length bytes) (block-pos site.new)) in
    let z : site.start ≡ 0 = place_none n g es site.start p in
    empty refl (record { start = z; end = omega arith }) (omega arith)
new-fresh n g site es (new_file bytes) path stamp (suc k) e b p r f =
    let l : length bytes ≤ suc k * block_length site.new = rw (← b) at (needed-covers (block_length site.new) (length bytes) (block-pos site.new)) in
    let t = place-run n g es k site.start p in
    run (suc k) refl (rw r t.0) e (omega arith) t.2 f l
new-fresh n g site es new_directory path stamp blocks e b p r f =
    let z : blocks ≡ 0 = b ∙ needed-none (block_length site.new) (block-pos site.new) in
    let q : site.start ≡ 0 = place_none n g es site.start (sym (ap (place_file n g es) z) ∙ p) in
    directory refl (record { start = q; end = omega arith })
