-- An accepted create leaves an image that opens, in which the new entry is seen and the others are as they were. Assumes nothing.
use Prim.Native.Nat.{ℕ, ◌+◌, ◌*◌, ◌≤◌}
use mathlib.Core.Path.{◌≡◌, refl, sym, ap, ap₂, subst, ◌∙◌}
use mathlib.Core.Bool.{true}
use mathlib.Core.List.{List, ◌∷◌, map}
use mathlib.Core.Logic.{inl, inr}
use native.Mathlib.Omega.{arith}
use lib.ListN.{length}
use lib.IntN.{ℤ}
use Rattle.rules.specs.Lists.{only, padded, All, Perm}
use Rattle.rules.specs.Lists.Laws.{only_yes, length-padded}
use Rattle.rules.specs.Fields.{splice}
use Rattle.rules.specs.Editions.{Edition}
use Rattle.rules.specs.SuperBlock.{Geometry, block_length, put_sizes}
use Rattle.rules.specs.SuperBlock.Laws.{as_stored, stored-block, stored-index, stored-edition}
use Rattle.rules.specs.Names.Laws.{new-path}
use Rattle.rules.specs.Index.{Entry, items_of, slot_at, slot_bytes, run_bytes}
use Rattle.rules.specs.Regions.{region_good, apart, regions_sound, blocks_of, blocks_needed}
use Rattle.rules.specs.Paths.{paths_sound}
use Rattle.rules.specs.Refusals.{accepted, Volume, entries, judge}
use Rattle.rules.specs.Refusals.Laws.{GoodSuper, Opens, judge-opens, opens-judge, opens-super}
use Rattle.rules.proofs.Refusals.Laws.{sizes-super}
use Rattle.rules.specs.Reading.{file_bytes}
use Rattle.rules.specs.Writing.{New, bytes_of, new_entry, put_marker, created, new_slots, new_blocks, Place, Site, site_of}
use Rattle.rules.specs.Writing.Laws.{tidy_image}
use Rattle.rules.specs.History.{Kept, kept_of}
use Rattle.after.specs.After.{is_named, seen, sight, unusables, Left, AfterCreate}
use Rattle.laws.proofs.Lists.Every.{all-weaken, all-and, all-only, map-ext}
use Rattle.laws.proofs.Lists.Spans.{SameBut, but-drop}
use Rattle.laws.proofs.Index.Items.{NoFault, IsTidy}
use Rattle.laws.proofs.Index.Slots.{slot-at, slot-first, slot_same, items-same}
use Rattle.laws.proofs.Index.Ends.{ends_good, ends-good, ends_same}
use Rattle.laws.proofs.Index.Runs.{Storable}
use Rattle.laws.proofs.Entries.Regions.{Fresh, sound-says, sound-create, sound-stored, region-stored, placed-stored}
use Rattle.laws.proofs.Entries.Walked.{Bare, settled-entries, bare-entries}
use Rattle.laws.proofs.Entries.Paths.{paths-create}
use Rattle.laws.proofs.Entries.Creating.{place-fits, new-fresh}
use Rattle.laws.proofs.Images.Kept.{Between, between-then, between-kept, super-kept}
use Rattle.laws.proofs.Images.Areas.{index-start, bytes-kept}
use Rattle.laws.proofs.Images.Region.{RegionKept, blocks-written, others-bytes, padded-back}
use Rattle.laws.proofs.Images.Inner.{inner-index, inner-between, inner-opens}
use Rattle.laws.proofs.Images.Sizes.{block_same, sizes-long, sizes-between, sizes-drop, sizes-ends}
use Rattle.laws.proofs.Images.Marker.{marker-written, marker-good}
use Rattle.laws.proofs.Images.Placing.{new_geometry, Placed, run-place, unused-room, grown-index, Grown, place-grown, Sizes, new-sizes}
use Rattle.laws.proofs.Images.Tidying.{settled_volume, opens-slotted, opens-settled, tidied-length, tidied-opens}
use Rattle.after.proofs.Sights.{seen_same, extents-named}
use Rattle.after.proofs.Tidied.{sight-tidied, unusables-tidied}
use Rattle.after.proofs.Create.Passed.{Sited, create-passed, settled-sited}
use Rattle.after.proofs.Create.Added.{Added, unused-added, front-added}
use Rattle.after.proofs.Create.Made.{Made, new-made, kind-run, fresh-region, bytes_fit, blocks-fit, made-storable}
use Rattle.after.proofs.Create.Seen.{regions-order, paths-order, seen-order, extents-order, seen-new}

-- bytes depend on the block length
bytes-block : (s : List ℕ) (g h : Geometry) (f : Entry) → block_length h ≡ block_length g → file_bytes s h f ≡ file_bytes s g f
unfolding file_bytes
bytes-block s g h f e = rw e

-- an image in which nothing is left over
module _ (s : List ℕ) (v : Volume) (new : New) (path : List ℕ) (stamp : ℤ) (o : Opens s v) (neat : IsTidy v.items) (place : Place) (start : ℕ) (c : Sited (length s) v new path place start) where
  -- the geometry before, the blocks of the file, the geometry written, the site and the new entry
  abbrev g : Geometry
  g = v.geometry

  abbrev ed : Edition
  ed = g.edition

  abbrev blocks : ℕ
  blocks = new_blocks g new

  abbrev g' : Geometry
  g' = new_geometry g place.geometry (start + blocks) stamp

  abbrev site : Site
  site = site_of v new path stamp place start

  abbrev e : Entry
  e = new_entry site new path stamp

  -- ---- where all goes
  placed : Placed (length s) v path (new_slots ed new path) place
  placed = run-place (length s) v path (new_slots ed new path) place c.run-placed

  grown : Grown (length s) g place.geometry
  grown = place-grown (length s) v path (new_slots ed new path) place o.geometry-good placed

  sizes : Sizes (length s) g place.geometry (start + blocks) g'
  sizes =
      new-sizes (length s) g place.geometry (start + blocks) stamp grown
      (place-fits (length s) place.geometry (entries v) blocks start c.file-placed)

  block-kept : block_length g' ≡ block_length g
  block-kept = block_same g g' sizes.same

  needed : blocks ≡ blocks_needed (block_length g') (length (bytes_of new))
  needed = rw block-kept

  fresh : Fresh g' (entries v) e
  fresh =
      new-fresh (length s) place.geometry site (entries v) new path stamp blocks refl needed c.file-placed
      (sizes.same.reserved-same ∙ sym grown.same.reserved-same) sizes.covers

  edition-kept : g'.edition ≡ ed
  edition-kept = sizes.same.edition-same

  made : Made ed new path place.slot start blocks e
  made = new-made v new path stamp place start

  storable : Storable ed e
  storable =
      made-storable (length s) g' sizes.good o.length_high (entries v) ed new path place.slot start blocks e made sizes.covers needed fresh
      (new-path path c.path-good).0

  ends : (ends_good s g ≡ true) × NoFault v.items
  ends = ends-good s g v.items o.index-sound

  -- ---- sizes and marker
  abbrev sized : List ℕ
  sized = put_sizes s g'

  abbrev marked : List ℕ
  marked = put_marker sized g g'

  sized-long : length sized ≡ length s
  sized-long = sizes-long s g g' o.geometry-good

  -- where the index area starts now
  front : 512 ≤ slot_at sized g' 0
  front = omega (arith, slot-first sized g', sized-long, index-start s g' sizes.good)

  marks : SameBut (slot_at sized g' 0) (slot_at sized g' 1) sized marked
  marks = marker-written sized g g' sizes.good.index-low (omega (arith, sized-long, sizes.good.index-fits))

  long : length marked ≡ length s
  long = marks.long ∙ sized-long

  marked-super : GoodSuper marked (as_stored g')
  marked-super = super-kept marks (as_stored g') front (sizes-super s g' g (opens-super s v o) sizes.same sizes.good)

  marked-ends : ends_good marked g' ≡ true
  marked-ends =
      marker-good sized g g' sizes.good.index-low (omega (arith, sized-long, sizes.good.index-fits)) edition-kept
      (sizes-ends s g g' o.geometry-good g refl refl ∙ ends.0)

  -- the slots behind the marker are as they were
  marked-items : (k : Geometry) → k.edition ≡ ed → k.index_bytes ≡ g.index_bytes → k.index_bytes ≤ g'.index_bytes → items_of marked k ≡ v.items
  marked-items k edition index low =
      let there : slot_at sized g' 1 ≤ slot_at s g 1 = omega (arith, slot-at sized g' 1, slot-at s g 1, sized-long) in
      items-same s marked g k long index edition
      (but-drop marks (slot_at s g 1) there ∙ sizes-drop s g g' o.geometry-good (slot_at s g 1) (omega (arith, front, slot-at sized g' 0, slot-at sized g' 1)))
      ∙ sym o.items-are

  -- ---- the run
  abbrev indexed : List ℕ
  indexed = splice marked (slot_at s g' e.slot) (run_bytes g'.edition e)

  added-by : Placed (length s) v path (new_slots ed new path) place → Added marked (splice marked (slot_at marked g' e.slot) (run_bytes g'.edition e)) g' e (entries v)
  unfolding new_entry
  added-by (inl a) =
      let index : g'.index_bytes ≡ g.index_bytes = sizes.index_same ∙ ap (λ (h : Geometry). h.index_bytes) a.geometry-is in
      unused-added marked g' v.items e (rw long sizes.good) (marked-items g' edition-kept index (omega arith)) neat (subst (λ (d : Edition). Storable d e) (sym edition-kept) storable)
      (unused-room s v o path (new_slots ed new path) place.slot a.found)
  added-by (inr a) =
      let index : g'.index_bytes ≡ g.index_bytes + slot_bytes * new_slots ed new path =
      sizes.index_same ∙ ap (λ (h : Geometry). h.index_bytes) a.geometry-is ∙ grown-index g (slot_bytes * new_slots ed new path) in
      subst (λ (d : Edition). Added marked (splice marked (slot_at marked g' e.slot) (run_bytes d e)) g' e (entries v)) (sym edition-kept)
      (front-added marked g g' v.items e edition-kept o.geometry-good.index-low (omega (arith, long, sizes.good.index-fits)) (marked-items g refl refl (omega arith)) ends.1 storable a.slot_is index)

  added : Added marked indexed g' e (entries v)
  added = rw (slot_same s marked g' g' long refl e.slot) at (added-by placed)

  -- ---- what is judged of the entries
  regions-good : regions_sound g' (e ∷ entries v) ≡ true
  regions-good =
      sound-create g g' (entries v) e sizes.same.reserved-same sizes.same.field-same sizes.keeps (settled-entries s v o) fresh o.regions-sound

  paths-good : paths_sound (e ∷ entries v) ≡ true
  unfolding new_entry
  paths-good = paths-create (entries v) e c.path-new c.nearest o.paths-sound

  abbrev volume : Volume
  volume = record { geometry = as_stored g'; items = items_of indexed g' }

  indexed-opens : judge indexed ≡ accepted volume
  indexed-opens =
      opens-judge indexed volume
      (inner-opens marked indexed (as_stored g') marked-super.geometry-good (inner-index marked indexed g' (as_stored g') (stored-index g') added.inner) (items_of indexed g') marked-super
      (ends_same marked marked g' (as_stored g') refl (stored-edition g') (stored-index g') refl refl ∙ marked-ends)
      (items-same indexed indexed g' (as_stored g') refl (stored-index g') (stored-edition g') refl)
      added.sound
      (regions-order (entries volume) (e ∷ entries v) added.order (as_stored g') ∙ sound-stored g' (e ∷ entries v) ∙ regions-good)
      (paths-order (entries volume) (e ∷ entries v) added.order ∙ paths-good))

  -- ---- the blocks
  abbrev t : List ℕ
  t = created s site new path stamp

  block-stored : block_length (as_stored g') ≡ block_length g
  block-stored = stored-block g' ∙ block-kept

  bytes-room : length (bytes_of new) ≤ blocks_of e * block_length g'
  bytes-room = bytes_fit (length s) g' sizes.good o.length_high (entries v) ed new path place.slot start blocks e made sizes.covers needed fresh

  kept : RegionKept indexed t volume e
  unfolding created new_entry blocks_of
  kept =
      rw (← stored-block g')
      (blocks-written indexed volume indexed-opens e (placed-stored g' e (fresh-region g' (entries v) e fresh)) (padded (bytes_of new) (blocks_of e * block_length (as_stored g')))
      (length-padded (bytes_of new) (blocks_of e * block_length (as_stored g')) (rw (stored-block g') bytes-room)))

  -- ---- what is seen
  between : Between s indexed g'
  between =
      between-then s sized indexed g' sized-long (sizes-between s g g' o.geometry-good g')
      (between-then sized marked indexed g' marks.long (between-kept marks g' (inr (omega (arith, slot-first sized g'))))
      (inner-between marked indexed g' (rw long sizes.good) added.inner))

  others : All (λ f. seen t (as_stored g') f ≡ seen s g f) (entries v)
  others =
      let good = sound-says g' (e ∷ entries v) regions-good in
      all-weaken (λ f. (Bare f × (region_good g' f ≡ true)) × (apart e f ≡ true)) (λ f. seen t (as_stored g') f ≡ seen s g f)
      (λ f q. seen_same s t g (as_stored g') f
      (others-bytes indexed t volume e f kept q.1 (as_stored g') refl q.0.0 (region-stored g' f ∙ q.0.1)
      ∙ bytes-kept s indexed g' (as_stored g') f sizes.good between (stored-block g') q.0.0 q.0.1
      ∙ bytes-block s g g' f block-kept)) (entries v)
      (all-and _ _ (entries v) (all-and Bare _ (entries v) (bare-entries s v o) good.each.1) good.two.0)

  -- its own bytes
  own-bytes : file_bytes t (as_stored g') e ≡ bytes_of new
  unfolding file_bytes created new_entry blocks_of
  own-bytes =
      rw (stored-block g')
      (padded-back indexed (e.start * block_length g') (bytes_of new) (blocks_of e * block_length g') bytes-room
      (omega (arith, long, added.inner.long, blocks-fit (length s) g' sizes.good o.length_high (entries v) ed new path place.slot start blocks e made sizes.covers needed fresh)))

  named : is_named e ≡ true
  unfolding new_entry is_named
  named = kind-run new

  own : seen t (as_stored g') e ≡ kept_of (block_length g) new path
  own = seen-new t (as_stored g') e ed new path place.slot start blocks made own-bytes (block_length g) refl

  agree : Perm (sight t volume) (kept_of (block_length g) new path ∷ sight s v)
  unfolding sight
  agree =
      let rest : map (seen t (as_stored g')) (only is_named (entries v)) ≡ map (seen s g) (only is_named (entries v)) =
      map-ext _ _ (only is_named (entries v)) (all-only _ is_named (entries v) others) in
      let all_seen : map (seen t (as_stored g')) (only is_named (e ∷ entries v)) ≡ kept_of (block_length g) new path ∷ map (seen s g) (only is_named (entries v)) =
      ap (map (seen t (as_stored g'))) (only_yes is_named e (entries v) named) ∙ ap₂ (λ (k : Kept) (ks : List Kept). k ∷ ks) own rest in
      rw all_seen at (seen-order (entries volume) (e ∷ entries v) added.order t (as_stored g'))

  unusable : Perm (unusables volume) (unusables v)
  unfolding unusables new_entry
  unusable = rw (extents-named e (entries v) (kind-run new)) at (extents-order (entries volume) (e ∷ entries v) added.order)

  left : Left t ed (block_length g) (kept_of (block_length g) new path ∷ sight s v) (unusables v)
  left = record { volume = volume; opens = kept.opens; edition = stored-edition g' ∙ edition-kept; blocks = block-stored; agree = agree; unusable = unusable }

-- THE THEOREM: by the image that is tidied first
pub create-left : AfterCreate
create-left s v new path stamp j r =
    let o = judge-opens s v j in
    let c = create-passed s v new path stamp j r in
    let d : Sited (length (tidy_image s v)) (settled_volume v) new path c.place c.start =
    rw (tidied-length s v o) (settled-sited (length s) v new path c.place c.start (opens-slotted s v o) c.sited) in
    rw (c.image-is, ← sight-tidied s v o, ← unusables-tidied v)
    (left (tidy_image s v) (settled_volume v) new path stamp (tidied-opens s v o) (opens-settled s v o) c.place c.start d)
