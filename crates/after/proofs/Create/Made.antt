-- The entry that create makes: its run can be stored, and its bytes fill its region. Assumes nothing.
use Prim.Native.Nat.{ℕ, ◌+◌, ◌-◌, ◌*◌, ◌≤◌}
use mathlib.Core.Path.{◌≡◌, refl, sym, ◌∙◌}
use mathlib.Core.Bool.{true, false}
use mathlib.Core.List.{List}
use mathlib.Core.Logic.{◌⊎◌, inl, inr}
use native.Mathlib.Omega.{arith}
use native.Mathlib.Nat.{add-mul, mul-le-mul_right, le-mul_of_pos_right}
use lib.ListN.{length}
use lib.IntN.{ℤ}
use Rattle.rules.specs.Refusals.{Volume}
use Rattle.rules.specs.Lists.Laws.{clash}
use Rattle.rules.specs.Editions.{Edition}
use Rattle.rules.specs.SuperBlock.{Geometry, block_length, data_end}
use Rattle.rules.specs.SuperBlock.Laws.{GoodGeometry, block-low, reserved-pos, areas-fit}
use Rattle.rules.specs.Names.{path_good}
use Rattle.rules.specs.Index.{Entry, file_type, directory_type, run_type, live_type}
use Rattle.rules.specs.Index.Laws.{live-fresh}
use Rattle.rules.specs.Regions.{blocks_of, blocks_needed}
use Rattle.rules.specs.Regions.Laws.{needed-covers}
use Rattle.rules.specs.Writing.{New, new_file, new_directory, kind_of, bytes_of, new_entry, new_slots, new_blocks, Place, site_of}
use Rattle.laws.proofs.Entries.Regions.{Regionless, Within, kind-file, Fresh, directory, empty, run}
use Rattle.laws.proofs.Index.Runs.{Storable}

-- ---- its fields
pub record Made (ed : Edition) (new : New) (path : List ℕ) (slot start blocks : ℕ) (e : Entry) : Type 0 where
  pub kind-is : e.kind ≡ kind_of new
  pub slot_is : e.slot ≡ slot
  pub slots-is : e.slots ≡ new_slots ed new path
  pub start_is : e.start ≡ start
  pub end_is : e.end ≡ start + blocks
  pub length-is : e.length ≡ length (bytes_of new)
  pub path-is : e.path ≡ path

pub new-made : (v : Volume) (new : New) (path : List ℕ) (stamp : ℤ) (place : Place) (start : ℕ)
    → Made v.geometry.edition new path place.slot start (new_blocks v.geometry new) (new_entry (site_of v new path stamp place start) new path stamp)
unfolding new_entry
new-made v new path stamp place start =
    record { kind-is = refl; slot_is = refl; slots-is = refl; start_is = refl; end_is = refl; length-is = refl; path-is = refl }

-- ---- its kind
pub kind-run : (new : New) → run_type (kind_of new) ≡ true
unfolding kind_of run_type directory_type file_type
kind-run (new_file bytes) = refl
kind-run new_directory = refl

kind-live : (new : New) → live_type (kind_of new) ≡ true
unfolding kind_of live_type
kind-live (new_file bytes) = refl
kind-live new_directory = refl

-- a directory has no bytes
no_bytes : (new : New) → file_type (kind_of new) ≡ false → length (bytes_of new) ≡ 0
unfolding kind_of bytes_of file_type
no_bytes (new_file bytes) e = clash e
no_bytes new_directory e = refl

-- ---- its region
no-region : (g : Geometry) (es : List Entry) (e : Entry) → Fresh g es e → file_type e.kind ≡ false → Regionless e
no-region g es e (directory t r) f = r
no-region g es e (empty t r l) f = r
no-region g es e (run k t a n p q b l) f = clash (sym (kind-file e.kind t) ∙ f)

pub fresh-region : (g : Geometry) (es : List Entry) (e : Entry) → Fresh g es e → Regionless e ⊎ Within g e
fresh-region g es e (directory t r) = inl r
fresh-region g es e (empty t r l) = inl r
fresh-region g es e (run k t a n p q b l) = inr (record { low = a; some = omega arith; high = b })

-- block 0 is reserved, so that no region ends with it
past_first : (g : Geometry) (e : Entry) → 1 ≤ g.reserved → Regionless e ⊎ Within g e → e.end ≡ 1 → ⊥
past_first g e r (inl z) l = absurd (omega (arith, z.end))
past_first g e r (inr w) l = absurd (omega (arith, w.low, w.some))

module _ (n : ℕ) (g : Geometry) (o : GoodGeometry n g) (high : n ≤ 16_777_216) (es : List Entry) (ed : Edition) (new : New) (path : List ℕ) (slot start blocks : ℕ) (e : Entry) (m : Made ed new path slot start blocks e)
    (covers : start + blocks ≤ data_end g) (needed : blocks ≡ blocks_needed (block_length g) (length (bytes_of new))) (fresh : Fresh g es e) where
  -- the file ends before the index
  file-fits : e.end * block_length g + g.index_bytes ≤ n
  file-fits = rw m.end_is (omega (arith, mul-le-mul_right (block_length g) covers, areas-fit n g o))

  bytes-needed : length (bytes_of new) ≤ blocks * block_length g
  bytes-needed = rw needed (needed-covers (block_length g) (length (bytes_of new)) (omega (arith, block-low n g o)))

  -- its bytes have room in its blocks, and those in the image
  pub bytes_fit : length (bytes_of new) ≤ blocks_of e * block_length g
  unfolding blocks_of
  bytes_fit = let b : e.end - e.start ≡ blocks = omega (arith, m.start_is, m.end_is) in rw b bytes-needed

  pub blocks-fit : e.start * block_length g + blocks_of e * block_length g ≤ n
  unfolding blocks_of
  blocks-fit =
      let b : e.end - e.start ≡ blocks = omega (arith, m.start_is, m.end_is) in
      rw (b, m.start_is) (omega (arith, add-mul start blocks (block_length g), mul-le-mul_right (block_length g) covers, areas-fit n g o))

  -- in numbers of blocks
  end_fits : e.end ≤ n
  end_fits =
      let d : e.end ≤ e.end * block_length g = le-mul_of_pos_right e.end (omega (arith, block-low n g o)) in
      omega (arith, file-fits)

  pub made-storable : path_good path ≡ true → Storable ed e
  made-storable p = record {
    kinds = rw m.kind-is (kind-run new);
    fresh = rw m.kind-is (live-fresh ed (kind_of new) (kind-live new));
    good = rw m.path-is p;
    fewest = m.slots-is ∙ rw (m.kind-is, m.path-is);
    starts = omega (arith, m.start_is, m.end_is, end_fits);
    ends = omega (arith, end_fits);
    past = past_first g e (reserved-pos n g o) (fresh-region g es e fresh);
    lengths = omega (arith, m.length-is, bytes_fit, blocks-fit);
    bare = λ f. let r = no-region g es e fresh f in (r.start, r.end, m.length-is ∙ no_bytes new (rw m.kind-is at f));
  }
