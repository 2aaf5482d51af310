-- Places for a run and for a file's blocks, by the tests that the code makes.
use Prim.Native.Nat.{ℕ, zero, suc, ◌+◌, ◌-◌, ◌*◌, ◌/◌, ◌%◌, ◌≤◌, ◌<◌}
use Rattle.std.specs.Prelude.{◌≡◌, Bool, true, false, ◌&&◌, List, eqb, ℤ, Option as Maybe, Some, None}
use Rattle.std.proofs.Math.Path.{refl, sym, ap}
use Rattle.std.proofs.Common.{ap₂, ◌∙◌}
use Rattle.std.proofs.Math.Option.{Option, none, some}
use native.Mathlib.Omega.{arith}
use Rattle.std.proofs.Math.Nat.{div-eq_of_lt}
use Rattle.std.proofs.Math.Decide.{dec_lt}
use Rattle.std.proofs.Math.Dec.{leb}
use borrow.Author.Tests.{le-leb, lt-leb, eq-eqb}
use Rattle.rules.specs.Lists.Laws.{pick_true, pick-false, and_right}
use Rattle.rules.specs.Editions.{Edition}
use Rattle.rules.specs.SuperBlock.{Geometry, most_index_bytes, index_good, block_length, ceiling_block, data_end, grow_index, with_index, extend_data, restamp}
use Rattle.rules.specs.SuperBlock.Laws.{GoodGeometry, reserved-pos}
use Rattle.rules.specs.Index.{Entry, Item, items_of, slot_bytes}
use Rattle.rules.specs.Regions.{LowestRun, lowest_free}
use Rattle.rules.specs.Regions.Laws.{lowest-is}
use Rattle.rules.specs.Refusals.{Volume}
use Rattle.rules.specs.Writing.{Site as Placing, Place, may_grow, grown_place, place_from, places_for, place_run, place_file, lowest_unused}
use Rattle.laws.proofs.Entries.Creating.{block-pos}
use Rattle.laws.proofs.Images.Placing.{new_geometry}
use Rattle.editions.specs.View.{edition_view}
use Rattle.geometry.specs.View.{geometry_view, areas_fit}
use Rattle.geometry.specs.declared.Geometry.{Geometry as Held}
use Rattle.units.specs.declared.Block.{Block}
use Rattle.units.specs.declared.Slot.{Slot}
use Rattle.index.specs.declared.Cursor.{Cursor}
use Rattle.index.specs.View.{Inside, items_from}
use Rattle.places.specs.Cut.{PlacesFor}
use Rattle.free_runs.specs.View.{free_view}

abbrev pub place_view : Maybe (Slot × Held) → Option Place
place_view None = none
place_view (Some p) = some (record { slot = p.0.0; geometry = geometry_view p.1 })

-- the cursor at the first slot of the index that g says
abbrev pub Begins : List ℕ → Held → Cursor → Type 0
Begins s g c = (items_from s c ≡ items_of s (geometry_view g)) × Inside s c × (c.edition ≡ g.edition)

-- the slots that an entry of the path may have
pub places-begin : (s : List ℕ) (g : Held) (c : Cursor) → Begins s g c → (path : List ℕ) (d : Cursor) → PlacesFor s c path d
    → items_from s d ≡ places_for (edition_view g.edition) path (items_of s (geometry_view g))
places-begin s g c b path d h = h.items ∙ ap₂ (λ (ed : Edition) (is : List Item). places_for ed path is) (ap edition_view b.2) b.0

-- a site by its parts: g before the call, grown after any growth of the index
abbrev pub site_from : Geometry → Geometry → ℕ → ℕ → ℕ → ℕ → ℤ → Placing
site_from g grown slot slots start blocks stamp = record {
  old = g;
  new = new_geometry g grown (start + blocks) stamp;
  slot = slot;
  slots = slots;
  start = start;
  end = start + blocks;
}

-- as a program makes it: `held` is the geometry with the data area up to `end`
pub site-made : (g grown : Geometry) (slot slots start blocks : ℕ) (stamp : ℤ) (end : ℕ) (held new : Geometry)
    → end ≡ start + blocks → held ≡ extend_data grown end → new ≡ restamp g held stamp
    → record { old = g; new = new; slot = slot; slots = slots; start = start; end = end } ≡ site_from g grown slot slots start blocks stamp
site-made g grown slot slots start blocks stamp end held new e f h = rw (h, f, e)

-- ---- growth: what is asked of an index that has grown, and of a good geometry, is the same
both-pass : (a b c d e : Bool) → a ≡ true → c ≡ true → d ≡ true → (((a && b && c) && d) && e) ≡ (b && e)
both-pass a true c d e x y z = rw (x, y, z)
both-pass a false c d e x y z = rw x

module _ (n : ℕ) (h : Geometry) where
  -- an index that is longer than the image leaves no block below it
  none_below : n < h.index_bytes → 1 ≤ h.reserved → leb (data_end h) (ceiling_block n h) ≡ false
  unfolding ceiling_block data_end
  none_below l r =
      let z : n - h.index_bytes ≡ 0 = omega arith in
      let c : ceiling_block n h ≡ 0 = ap (λ (x : ℕ). x / block_length h) z ∙ div-eq_of_lt (block-pos h) in
      lt-leb (data_end h) (ceiling_block n h) (omega (arith, c))

  areas-grow : 128 ≤ h.index_bytes → h.index_bytes % 64 ≡ 0 → 1 ≤ h.reserved → areas_fit n h ≡ may_grow n h
  unfolding areas_fit may_grow index_good
  areas-grow low slots reserved = by (dec_lt n h.index_bytes)
    where
      by : Dec (n < h.index_bytes) → areas_fit n h ≡ may_grow n h
      by (yes l) =
          let f = none_below l reserved in
          and_right (index_good h.index_bytes && leb h.index_bytes n) _ f ∙ sym (and_right (leb h.index_bytes most_index_bytes) _ f)
      by (no l) =
          both-pass (leb 128 h.index_bytes) (leb h.index_bytes most_index_bytes) (eqb (h.index_bytes % 64) 0) (leb h.index_bytes n)
          (leb (data_end h) (ceiling_block n h))
          (le-leb 128 h.index_bytes low) (eq-eqb (h.index_bytes % 64) 0 slots) (le-leb h.index_bytes n (omega arith))

module _ (n : ℕ) (g : Geometry) (good : GoodGeometry n g) (k : ℕ) (h : Geometry) (is : h ≡ grow_index g (slot_bytes * k)) where
  pub grown-field : h.block_field ≤ 5
  unfolding grow_index with_index
  grown-field = omega (arith, ap (λ (x : Geometry). x.block_field) is, good.field-high)

  grown-fits : areas_fit n h ≡ may_grow n h
  unfolding grow_index with_index
  grown-fits =
      let i : h.index_bytes ≡ g.index_bytes + slot_bytes * k = ap (λ (x : Geometry). x.index_bytes) is in
      let r : h.reserved ≡ g.reserved = ap (λ (x : Geometry). x.reserved) is in
      areas-grow n h (omega (arith, good.index-low)) (omega (arith, good.index-slots)) (omega (arith, reserved-pos n g good))

  pub grown-not : areas_fit n h ≡ false → none ≡ grown_place n (grow_index g (slot_bytes * k))
  unfolding grown_place
  grown-not e = rw (← is) (sym (pick-false _ _ (sym grown-fits ∙ e)))

  pub grown-at : areas_fit n h ≡ true → (slot : ℕ) → slot ≡ 1 → some (record { slot = slot; geometry = h }) ≡ grown_place n (grow_index g (slot_bytes * k))
  unfolding grown_place
  grown-at e slot first = rw (← is, first) (sym (pick_true _ _ (sym grown-fits ∙ e)))

-- ---- by what unused slots there are
module _ (n : ℕ) (v : Volume) (path : List ℕ) (slots : ℕ) where
  pub place-unused : (k : ℕ) → lowest_unused slots (places_for v.geometry.edition path v.items) ≡ some k → place_run n v path slots ≡ some (record { slot = k; geometry = v.geometry })
  unfolding place_run place_from
  place-unused k e = rw e

  pub place-grown : lowest_unused slots (places_for v.geometry.edition path v.items) ≡ none → place_run n v path slots ≡ grown_place n (grow_index v.geometry (slot_bytes * slots))
  unfolding place_run place_from
  place-grown e = rw e

-- ---- a file's blocks
module _ (n : ℕ) (g : Geometry) (es : List Entry) where
  pub place_none : (k : ℕ) → k ≡ 0 → place_file n g es k ≡ some 0
  unfolding place_file
  place_none k e = rw e

  pub place-blocks : (k : ℕ) → (k ≡ 0 → ⊥) → place_file n g es k ≡ lowest_free es k g.reserved (ceiling_block n g)
  unfolding place_file
  place-blocks zero h = absurd (h refl)
  place-blocks (suc k) h = refl

  -- block 0 is reserved
  pub place-past : 1 ≤ g.reserved → (k start : ℕ) → place_file n g es k ≡ some start → start + k ≡ 1 → ⊥
  unfolding place_file LowestRun
  place-past r zero start p e = let z : 0 ≡ start = cc in omega arith
  place-past r (suc k) start p e = omega (arith, (lowest-is es (suc k) g.reserved (ceiling_block n g) (some start) p).0)

-- ---- what an answer says, by what it is
pub run-says : (n : ℕ) (v : Volume) (path : List ℕ) (slots : ℕ) (r x : Maybe (Slot × Held)) → place_view r ≡ place_run n v path slots → r ≡ x
    → (m : ℕ) → slots ≡ m → place_run n v path m ≡ place_view x
run-says n v path slots r x told e m k = ap (place_run n v path) (sym k) ∙ sym told ∙ ap place_view e

pub file-says : (n : ℕ) (g : Geometry) (es : List Entry) (k : ℕ) (r x : Maybe Block) → free_view r ≡ place_file n g es k → r ≡ x
    → (m : ℕ) → k ≡ m → place_file n g es m ≡ free_view x
file-says n g es k r x told e m j = ap (place_file n g es) (sym j) ∙ sym told ∙ ap free_view e
