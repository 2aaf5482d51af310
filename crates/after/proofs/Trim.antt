-- Some entries go: their runs are made unused slots and the data area is trimmed to the regions of the others, in an image in which nothing is left over. It opens,
-- and shows the others as they were. A reclaim does this to the deleted entries, a plain delete to the live one of a path.
use Prim.Native.Nat.{ℕ, ◌≤◌}
use mathlib.Core.Path.{◌≡◌, refl, sym, ap, ◌∙◌}
use mathlib.Core.Bool.{Bool, true, not}
use mathlib.Core.List.{List, map}
use native.Mathlib.Omega.{arith}
use lib.ListN.{length}
use lib.IntN.{ℤ}
use Rattle.rules.specs.Lists.{only}
use Rattle.rules.specs.SuperBlock.{Geometry, block_length, data_end, trim_data, with_data, with_stamp, put_sizes}
use Rattle.rules.specs.SuperBlock.Laws.{GoodGeometry, SameSealed, same_self, same-trim, same-restamp, as_stored, stored-block, stored-index}
use Rattle.rules.specs.Index.{Entry, items_of}
use Rattle.rules.specs.Regions.{regions_sound}
use Rattle.rules.specs.Paths.{paths_sound}
use Rattle.rules.specs.Refusals.{Volume, entries}
use Rattle.rules.specs.Refusals.Laws.{GoodSuper, Opens, opens-judge, opens-super}
use Rattle.rules.proofs.Refusals.Laws.{sizes-super}
use Rattle.rules.specs.Writing.{least_end, trimmed_to, cleared}
use Rattle.after.specs.After.{is_named, seen, Left, sight, unusables}
use Rattle.laws.proofs.Lists.Perms.{perm-of}
use Rattle.laws.proofs.Index.Items.{NoFault, IsTidy}
use Rattle.laws.proofs.Index.Slots.{items-same}
use Rattle.laws.proofs.Index.Ends.{ends-good, ends_good}
use Rattle.laws.proofs.Entries.Regions.{sound-stored, sound-trim, sound-restamp, trim-fits}
use Rattle.laws.proofs.Entries.Walked.{settled-entries, bare-entries}
use Rattle.laws.proofs.Images.Kept.{Between}
use Rattle.laws.proofs.Images.Inner.{inner-index, inner-between, inner-opens}
use Rattle.laws.proofs.Images.Sizes.{restamp-index, restamp-end, block_same, good-shrunk, sizes-long, sizes-between, sizes-ends, sizes-items}
use Rattle.laws.proofs.Images.Clearing.{Cleared, cleared_items, cleared-entries, cleared-sound, clear-all}
use Rattle.after.proofs.Sights.{seen-part, extents_of}

-- those that pass go
module _ (s : List ℕ) (v : Volume) (stamp : ℤ) (o : Opens s v) (neat : IsTidy v.items) (p : Entry → Bool) where
  abbrev g : Geometry
  g = v.geometry

  abbrev q : Entry → Bool
  q e = not (p e)

  abbrev stay : List Entry
  stay = only q (entries v)

  -- the geometry that is written; its stamp is then read as it is stored
  abbrev h : Geometry
  h = trimmed_to stay g stamp

  pub sealed : SameSealed h g
  sealed = same-restamp (trim_data g (least_end stay)) g (same-trim g g (same_self g) (least_end stay)) g stamp

  edition : h.edition ≡ g.edition
  edition = sealed.edition-same

  pub index : h.index_bytes ≡ g.index_bytes
  unfolding trim_data with_data
  index = restamp-index g (trim_data g (least_end stay)) stamp

  shrinks : data_end h ≤ data_end g
  shrinks = omega (arith, restamp-end g (trim_data g (least_end stay)) stamp, trim-fits g q (entries v) (settled-entries s v o) o.regions-sound)

  stored-edition : (as_stored h).edition ≡ h.edition
  unfolding as_stored with_stamp
  stored-edition = refl

  good : GoodGeometry (length s) h
  good = good-shrunk g h sealed (length s) index shrinks o.geometry-good

  -- ---- the sizes written
  abbrev begun : List ℕ
  begun = put_sizes s h

  pub long : length begun ≡ length s
  long = sizes-long s g h o.geometry-good

  begun-super : GoodSuper begun (as_stored h)
  begun-super = sizes-super s h g (opens-super s v o) sealed good

  begun-ends : ends_good begun (as_stored h) ≡ true
  begun-ends = sizes-ends s g h o.geometry-good (as_stored h) (stored-edition ∙ edition) (stored-index h ∙ index) ∙ (ends-good s g v.items o.index-sound).0

  begun-items : items_of begun h ≡ v.items
  begun-items = sizes-items s g h o.geometry-good h edition index ∙ sym o.items-are

  -- ---- the runs cleared
  abbrev pub image : List ℕ
  image = cleared p begun h (entries v)

  sound : NoFault v.items
  sound = (ends-good s g v.items o.index-sound).1

  clears : Cleared begun image h (cleared_items p v.items)
  clears = clear-all p begun h v.items (rw long good) begun-items neat

  abbrev pub volume : Volume
  volume = record { geometry = as_stored h; items = cleared_items p v.items }

  pub entries-are : entries volume ≡ stay
  entries-are = cleared-entries p v.items

  regions : regions_sound (as_stored h) stay ≡ true
  regions = sound-stored h stay ∙ sound-restamp g (trim_data g (least_end stay)) stamp stay ∙ sound-trim g q (entries v) o.regions-sound

  pub trim-opens : paths_sound stay ≡ true → Opens image volume
  trim-opens paths =
      inner-opens begun image (as_stored h) begun-super.geometry-good (inner-index begun image h (as_stored h) (stored-index h) clears.inner) (cleared_items p v.items) begun-super begun-ends
      (items-same image image h (as_stored h) refl (stored-index h) stored-edition refl ∙ clears.items)
      (cleared-sound p v.items sound)
      (rw entries-are regions)
      (rw entries-are paths)

  -- ---- what is seen of it
  pub between : Between s image g
  between a n low high =
      inner-between begun image h (rw long good) clears.inner a n low (omega (arith, long, index))
      ∙ sizes-between s g h o.geometry-good g a n low high

  block : block_length (as_stored h) ≡ block_length g
  block = stored-block h ∙ block_same g h sealed

  sees : sight image volume ≡ map (seen s g) (only is_named stay)
  unfolding sight
  sees = rw entries-are (seen-part s image g (as_stored h) o.geometry-good between block q (entries v) (bare-entries s v o) o.regions-sound)

  unusable : extents_of stay ≡ extents_of (entries v) → unusables volume ≡ unusables v
  unfolding unusables
  unusable same = ap extents_of entries-are ∙ same

  pub trim-left : paths_sound stay ≡ true → extents_of stay ≡ extents_of (entries v) → Left image g.edition (block_length g) (map (seen s g) (only is_named stay)) (unusables v)
  trim-left paths same = record {
    volume = volume;
    opens = opens-judge image volume (trim-opens paths);
    edition = stored-edition ∙ edition;
    blocks = block;
    agree = perm-of _ _ sees;
    unusable = perm-of _ _ (unusable same);
  }
