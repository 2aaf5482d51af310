-- An accepted delete leaves an image that opens, with its entry struck; where the file's bytes were are zeros, and where its name was are unused slots.
use Prim.Native.Nat.{ℕ, ◌+◌, ◌*◌, ◌≤◌}
use mathlib.Core.Path.{◌≡◌, refl, sym, ap, subst, ◌∙◌}
use mathlib.Core.Bool.{true, false, not}
use mathlib.Core.List.{List, map}
use mathlib.Core.Logic.{◌⊎◌, inl, inr}
use mathlib.Core.Option.{some}
use native.Mathlib.Omega.{arith}
use native.Mathlib.Nat.{zero-mul}
use lib.ListN.{length, replicate, length-replicate}
use lib.IntN.{ℤ}
use Rattle.rules.specs.Lists.{only, part, All}
use Rattle.rules.specs.Fields.Laws.{length-splice, part-splice-in}
use Rattle.rules.specs.Editions.{Edition}
use Rattle.rules.specs.SuperBlock.{Geometry, block_length, put_sizes}
use Rattle.rules.specs.Index.{Entry, slot_bytes, slot_at, unused_bytes}
use Rattle.rules.specs.Index.Laws.{length-unused_bytes}
use Rattle.rules.specs.Regions.{blocks_of, region_good, apart}
use Rattle.rules.specs.Paths.{live_at, lookup, any_below}
use Rattle.rules.specs.Refusals.{accepted, Volume, entries}
use Rattle.rules.specs.Refusals.Laws.{Opens, judge-opens, opens-judge}
use Rattle.rules.specs.Writing.{run_cleared, region_cleared, trimmed_to, without, wiped, delete_of, Wiped, DeleteWipes}
use Rattle.rules.specs.Writing.Laws.{tidy_image, region-zeros}
use Rattle.rules.specs.History.{kept_at}
use Rattle.after.specs.After.{is_named, seen, Left, sight, unusables, AfterDelete}
use Rattle.laws.proofs.Lists.Parts.{some_same}
use Rattle.laws.proofs.Lists.Every.{all-and, all-only, all-weaken, map-ext}
use Rattle.laws.proofs.Index.Items.{NoFault, IsTidy}
use Rattle.laws.proofs.Index.Slots.{slot-at}
use Rattle.laws.proofs.Index.Ends.{ends-good}
use Rattle.laws.proofs.Entries.Regions.{Regionless, Within, sound-says}
use Rattle.laws.proofs.Entries.Walked.{Bare, bare-entries}
use Rattle.laws.proofs.Entries.Paths.{paths-strike}
use Rattle.laws.proofs.Images.Areas.{within_in}
use Rattle.laws.proofs.Images.Indexes.{entry_whole}
use Rattle.laws.proofs.Images.Region.{RegionKept, blocks-written, others-bytes}
use Rattle.laws.proofs.Images.Live.{place, held, others_apart, cleared-live}
use Rattle.laws.proofs.Images.Tidying.{settled_volume, settled-entries, opens-settled, tidied-opens}
use Rattle.after.proofs.Sights.{seen_same, without-seen, extents-without}
use Rattle.after.proofs.Tidied.{sight-tidied, unusables-tidied}
use Rattle.after.proofs.Trim.{sealed, index, long, image, between, trim-left}
use Rattle.after.proofs.Deletable.{DeletePassed, delete-passed}

-- unused slots that were written for a run are there, by any geometry with the same index
run-back : (x : List ℕ) (g h : Geometry) (e : Entry) → h.edition ≡ g.edition → h.index_bytes ≡ g.index_bytes → slot_at x h e.slot + slot_bytes * e.slots ≤ length x
    → let u : List ℕ = run_cleared x h e in
    part u (slot_at u g e.slot) (slot_bytes * e.slots) ≡ unused_bytes g.edition e.slots
run-back x g h e edition index room =
    let at : ℕ = slot_at x h e.slot in
    let bs : List ℕ = unused_bytes h.edition e.slots in
    let u : List ℕ = run_cleared x h e in
    let l : length bs ≡ slot_bytes * e.slots = length-unused_bytes h.edition e.slots in
    let fits : at + length bs ≤ length x = omega (arith, l, room) in
    let there : slot_at u g e.slot ≡ at = omega (arith, slot-at u g e.slot, slot-at x h e.slot, index, length-splice x at bs fits) in
    subst (λ (n : ℕ). part u n (slot_bytes * e.slots) ≡ unused_bytes g.edition e.slots) (sym there)
    (subst (λ (n : ℕ). part u at n ≡ bs) l (part-splice-in x at bs fits) ∙ ap (λ (ed : Edition). unused_bytes ed e.slots) edition)

-- no bytes are zeros
none-zeros : (u : List ℕ) (a n : ℕ) → n ≡ 0 → part u a n ≡ replicate n 0
unfolding part
none-zeros u a n e = rw e

module _ (s : List ℕ) (v : Volume) (path : List ℕ) (stamp : ℤ) (o : Opens s v) (d : DeletePassed s v path (wiped path stamp)) where
  abbrev g : Geometry
  g = v.geometry

  abbrev e : Entry
  e = d.it

  -- ---- the tidied image
  abbrev t : List ℕ
  t = tidy_image s v

  abbrev w : Volume
  w = settled_volume v

  o₂ : Opens t w
  o₂ = tidied-opens s v o

  neat : IsTidy w.items
  neat = opens-settled s v o

  same : entries w ≡ entries v
  same = settled-entries v.items

  found : lookup path (entries w) ≡ some e
  found = ap (lookup path) same ∙ d.found

  alone : any_below path (entries w) ≡ false
  alone = ap (any_below path) same ∙ d.alone

  placed : Regionless e ⊎ Within g e
  placed = held t w path o₂ e found

  -- ---- its blocks are zeros
  abbrev bytes : ℕ
  bytes = blocks_of e * block_length g

  abbrev z : List ℕ
  z = region_cleared t g e

  kept : RegionKept t z w e
  unfolding region_cleared
  kept = blocks-written t w (opens-judge t w o₂) e placed (replicate bytes 0) (length-replicate bytes 0)

  o₃ : Opens z w
  o₃ = judge-opens z w kept.opens

  -- ---- the data area is trimmed and its run is unused slots
  abbrev h : Geometry
  h = trimmed_to (without path (entries w)) g stamp

  image-run : (delete_of s path stamp).image ≡ run_cleared (put_sizes z h) h e
  unfolding delete_of wiped
  image-run = d.image ∙ ap (λ (es : List Entry). run_cleared (put_sizes z (trimmed_to (without path es) g stamp)) (trimmed_to (without path es) g stamp) e) (sym same)

  image-is : (delete_of s path stamp).image ≡ image z w stamp o₃ neat (live_at path)
  image-is = image-run ∙ sym (cleared-live t w path o₂ e found (put_sizes z h) h)

  -- ---- what is seen of it
  stays : map (seen z g) (only is_named (without path (entries w))) ≡ map (seen t g) (only is_named (without path (entries w)))
  stays =
      let others : List Entry = without path (entries w) in
      let each : All (λ f. (apart e f ≡ true) × (Bare f × (region_good g f ≡ true))) others =
      all-and _ _ others (others_apart t w path o₂ e found)
      (all-only _ _ (entries w) (all-and Bare _ (entries w) (bare-entries t w o₂) (sound-says g (entries w) o₂.regions-sound).each)) in
      map-ext _ _ (only is_named others)
      (all-only _ is_named others (all-weaken _ _ (λ f q. seen_same t z g g f (others-bytes t z w e f kept q.0 g refl q.1.0 q.1.1)) others each))

  left : Left (delete_of s path stamp).image g.edition (block_length g) (only (λ k. not (kept_at path k)) (sight s v)) (unusables v)
  left =
      rw (image-is, ← sight-tidied s v o, ← unusables-tidied v, ← without-seen t w path, ← stays)
      (trim-left z w stamp o₃ neat (live_at path) (paths-strike path (entries w) alone o₃.paths-sound) (extents-without path (entries w)))

  -- ---- what is left of it
  region : part (delete_of s path stamp).image (e.start * block_length g) bytes ≡ replicate bytes 0
  unfolding blocks_of
  region = by placed
    where
      by : Regionless e ⊎ Within g e → part (delete_of s path stamp).image (e.start * block_length g) bytes ≡ replicate bytes 0
      by (inl r) = none-zeros _ _ bytes (ap (λ (n : ℕ). n * block_length g) (omega (arith, r.end)) ∙ zero-mul (block_length g))
      by (inr i) =
          let inside = within_in (length t) g e o₂.geometry-good i in
          ap (λ (u : List ℕ). part u (e.start * block_length g) bytes) image-is
          ∙ between z w stamp o₃ neat (live_at path) (e.start * block_length g) bytes inside.low (omega (arith, inside.order, inside.high, kept.long))
          ∙ region-zeros t g e (omega (arith, inside.order, inside.high))

  run : part (delete_of s path stamp).image (slot_at (delete_of s path stamp).image g e.slot) (slot_bytes * e.slots) ≡ unused_bytes g.edition e.slots
  run =
      let f = place t w path o₂ e found in
      let room = entry_whole t g o₂.geometry-good f.pre e f.post (sym o₂.items-are ∙ f.split) (subst NoFault o₂.items-are (ends-good t g w.items o₂.index-sound).1) in
      let i : h.index_bytes ≡ g.index_bytes = index z w stamp o₃ neat (live_at path) in
      let l : length (put_sizes z h) ≡ length z = long z w stamp o₃ neat (live_at path) in
      rw image-run
      (run-back (put_sizes z h) g h e (sealed z w stamp o₃ neat (live_at path)).edition-same i
      (omega (arith, room, i, l, kept.long, slot-at (put_sizes z h) h e.slot, slot-at t g e.slot)))

pub delete-left : AfterDelete
unfolding delete_of
delete-left s v path stamp o z = left s v path stamp (judge-opens s v o) (delete-passed s v path (wiped path stamp) o z)

-- THE PROMISE OF A PLAIN DELETE
pub delete-wipes : DeleteWipes
unfolding delete_of
delete-wipes s v path e stamp o f z =
    let d = delete-passed s v path (wiped path stamp) o z in
    let i = judge-opens s v o in
    subst (Wiped (delete_of s path stamp).image v.geometry) (some_same d.it e (sym d.found ∙ f))
    (record { region = region s v path stamp i d; run = run s v path stamp i d })
