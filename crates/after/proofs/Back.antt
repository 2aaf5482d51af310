-- Two calls, one after the other: a delete that keeps and a restore with the old stamp give the old image, where deleted entries are kept; where not, and after a
-- reclaim, there is nothing to restore.
use Prim.Native.Nat.{ℕ, ◌+◌, ◌≤◌}
use mathlib.Core.Path.{◌≡◌, refl, sym, ap, ap₂, subst, ◌∙◌}
use mathlib.Core.Bool.{Bool, true, false, not}
use mathlib.Core.List.{List, ◌∷◌, ◌++◌, map}
use mathlib.Core.Option.{none}
use native.Mathlib.Omega.{arith}
use borrow.Author.Tests.{not-true}
use lib.Dec.{leb}
use lib.ListN.{length, get_or}
use lib.IntN.{ℤ}
use Rattle.rules.specs.Lists.{pick, any, only, first, is_some, eq_list}
use Rattle.rules.specs.Lists.Laws.{and_left, is-some}
use Rattle.rules.specs.Fields.{Bytes, stamp_in}
use Rattle.rules.specs.Editions.{Edition, keeps_deleted, version_written}
use Rattle.rules.specs.Editions.Laws.{sum-short}
use Rattle.rules.specs.SuperBlock.{Geometry, writable}
use Rattle.rules.specs.SuperBlock.Laws.{SameSealed, stored_stamp}
use Rattle.rules.specs.Names.{leading}
use Rattle.rules.specs.Index.{Entry, entries_of, slot_at, items_of, entry, stamp_at, retyped}
use Rattle.rules.specs.Paths.{is_live, is_deleted, live_at, deleted_at, lookup, any_below, paths_sound}
use Rattle.rules.specs.Paths.Laws.{any-first}
use Rattle.rules.specs.Refusals.{accepted, Volume, entries, judge}
use Rattle.rules.specs.Refusals.Laws.{Opens, judge-opens, opens-judge}
use Rattle.rules.specs.Writing.{nearest_live, on_deletable, deleted_kind, deleted, delete_keep_of, live_kind, restored, restore_of, undeleted, reclaim_of}
use Rattle.rules.specs.Writing.Laws.{refused_write, wrote, restore-none, restore-several, restore-done}
use Rattle.after.specs.After.{DeletedRestored, ReclaimedRestored}
use Rattle.laws.proofs.Lists.Parts.{some_same}
use Rattle.laws.proofs.Lists.Every.{pick-by, not-both, is_false, all_of, all_map, all-weaken, all-chosen, none_passes, none_first, first-at, any_at, one_more, all_split}
use Rattle.laws.proofs.Index.Entries.{retyped_entry}
use Rattle.laws.proofs.Index.Slots.{slot_same}
use Rattle.laws.proofs.Index.Places.{Found}
use Rattle.laws.proofs.Index.Retyped.{retyped-back, retyped-written}
use Rattle.laws.proofs.Entries.EntryKinds.{live-run, deleted-is, live-again, deleted-gone}
use Rattle.laws.proofs.Entries.Paths.{deleted_at-says, deleted_at-holds, live-not-deleted, nearest-stays}
use Rattle.laws.proofs.Entries.Walked.{deleted-entries}
use Rattle.laws.proofs.Entries.Retyping.{retype-by}
use Rattle.laws.proofs.Entries.Deleting.{delete_at, deletes, takes-away, delete-paths}
use Rattle.laws.proofs.Images.Accepted.{passed-may}
use Rattle.laws.proofs.Images.Indexes.{entry-room, kind-there, stamp-there}
use Rattle.laws.proofs.Images.Live.{place, live, at_path, others}
use Rattle.laws.proofs.Images.Tidying.{tidied-kept}
use Rattle.after.proofs.Retype.Left.{entries-before, entries-after, entries-map, changed, image, volume, opens}
use Rattle.after.proofs.Deletable.{DeletePassed, delete-passed}
use Rattle.after.proofs.DeleteKeep.{image-kept, opens-struck}
use Rattle.after.proofs.Reclaim.Left.{reclaim-reopens}

module _ (s : List ℕ) (v : Volume) (path : List ℕ) (stamp : ℤ) (bytes : Bytes s) (o : Opens s v) (keeps : keeps_deleted v.geometry.edition ≡ true)
    (d : DeletePassed s v path (deleted stamp)) (may : writable v.geometry ≡ true) where
  abbrev it : Entry
  it = d.it

  abbrev spot : Found (live_at path) v.items it
  spot = place s v path o it d.found

  abbrev pre : List Entry
  pre = entries_of spot.pre

  abbrev post : List Entry
  post = entries_of spot.post

  -- ---- the image that the delete left
  abbrev t : List ℕ
  t = image s v o keeps (live_at path) deleted_kind (deletes path) stamp it spot

  abbrev w : Volume
  w = volume s v o keeps (live_at path) deleted_kind (deletes path) stamp it spot

  abbrev gone : Entry
  gone = changed s v o keeps (live_at path) deleted_kind (deletes path) stamp it spot

  opened : Opens t w
  opened =
      opens s v o keeps (live_at path) deleted_kind (deletes path) stamp it spot (others s v path o it d.found)
      (delete-paths path (stored_stamp stamp) (entries v) d.alone o.paths-sound)

  reopens : judge t ≡ accepted w
  reopens = opens-judge t w opened

  whole : entries v ≡ pre ++ (it ∷ post)
  whole = entries-before s v o keeps (live_at path) deleted_kind (deletes path) stamp it spot

  left : entries w ≡ pre ++ (gone ∷ post)
  left = entries-after s v o keeps (live_at path) deleted_kind (deletes path) stamp it spot

  mapped : entries w ≡ map (delete_at path (stored_stamp stamp)) (entries v)
  mapped = entries-map s v o keeps (live_at path) deleted_kind (deletes path) stamp it spot (others s v path o it d.found)

  -- ---- what a restore meets in it
  not_live : is_some (lookup path (entries w)) ≡ false
  unfolding lookup live_at is_live is_some retyped_entry
  not_live =
      ap is_some
      (ap (first (live_at path)) mapped
      ∙ none_first (live_at path) (map (delete_at path (stored_stamp stamp)) (entries v))
      (all_map (λ e. live_at path e ≡ false) (delete_at path (stored_stamp stamp)) (entries v)
      (all_of _ (λ e.
      retype-by (live_at path) deleted_kind (stored_stamp stamp) (λ x. live_at path x ≡ false) e (λ h. and_left _ _ (deleted-gone e.kind)) (λ h. h))
      (entries v))))

  directory : nearest_live (entries w) (leading path) ≡ true
  directory =
      ap (λ es. nearest_live es (leading path)) (mapped ∙ ap (map (delete_at path (stored_stamp stamp))) whole)
      ∙ nearest-stays path (delete_at path (stored_stamp stamp)) pre it post (takes-away path (stored_stamp stamp))
      (live s v path o it d.found) (at_path s v path o it d.found)
      (ap (any_below path) (sym whole) ∙ d.alone) (ap paths_sound (sym whole) ∙ o.paths-sound)

  is-deleted : deleted_at path gone ≡ true
  unfolding is_deleted retyped_entry
  is-deleted = deleted_at-holds path gone (deleted-is it.kind) (at_path s v path o it d.found)

  was-live : deleted_at path it ≡ false
  was-live = not-true (deleted_at path it) (live-not-deleted path it (live s v path o it d.found))

  count : leb (length (only (deleted_at path) (entries w))) 1 ≡ not (any (deleted_at path) (entries v))
  count =
      ap (λ es. leb (length (only (deleted_at path) es)) 1) left
      ∙ one_more (deleted_at path) pre it gone post was-live is-deleted
      ∙ ap (λ es. not (any (deleted_at path) es)) (sym whole)

  -- ---- and what it writes
  here : items_of s v.geometry ≡ spot.pre ++ (entry it ∷ spot.post)
  here = sym o.items-are ∙ spot.split

  abbrev at : ℕ
  at = slot_at s v.geometry it.slot

  room : at + stamp_at v.geometry.edition + 8 ≤ length s
  room = omega (arith, entry-room s v.geometry o.geometry-good spot.pre it spot.post here, sum-short v.geometry.edition)

  kind-back : live_kind (deleted_kind it.kind) ≡ get_or s at 0
  unfolding is_live
  kind-back =
      let l = live s v path o it d.found in
      live-again it.kind l ∙ kind-there s v.geometry o.geometry-good spot.pre it spot.post here (live-run it l)

  stamp-back : it.stamp ≡ stamp_in s (at + stamp_at v.geometry.edition)
  stamp-back = stamp-there s v.geometry o.geometry-good spot.pre it spot.post here (live-run it (live s v path o it d.found))

  abbrev ed : Edition
  ed = v.geometry.edition

  old-bytes : restored ed t (slot_at t v.geometry gone.slot) gone it.stamp ≡ s
  unfolding restored retyped_entry
  old-bytes =
      let long : length t ≡ length s = (retyped-written ed s at (deleted_kind it.kind) stamp room).long in
      let same : slot_at t v.geometry it.slot ≡ at = slot_same s t v.geometry v.geometry long refl it.slot in
      ap (λ (n : ℕ). retyped ed t n (live_kind (deleted_kind it.kind)) it.stamp) same
      ∙ ap₂ (retyped ed t at) kind-back stamp-back
      ∙ retyped-back ed s at bytes room (deleted_kind it.kind) stamp

  back : (b : Bool) → any (deleted_at path) (entries v) ≡ b → restore_of t path it.stamp ≡ pick b (refused_write t 19) (wrote s)
  unfolding pick
  back true e =
      let some_one = ap (any (deleted_at path)) left ∙ any_at (deleted_at path) pre gone post is-deleted in
      let f = is-some (first (deleted_at path) (entries w)) (sym (any-first (deleted_at path) (entries w)) ∙ some_one) in
      restore-several t w reopens may path it.stamp d.named f.0 f.1 not_live directory (count ∙ ap not e)
  back false e =
      let none_here = all_split _ pre (it ∷ post) (none_passes (deleted_at path) (pre ++ (it ∷ post)) (rw whole at e)) in
      let found = ap (first (deleted_at path)) left ∙ first-at (deleted_at path) pre gone post none_here.0 is-deleted in
      restore-done t w reopens may path it.stamp d.named gone found not_live directory (count ∙ ap not e)
      ∙ ap (λ (u : List ℕ). wrote (restored ed u (slot_at u v.geometry gone.slot) gone it.stamp)) (tidied-kept t w opened keeps)
      ∙ ap wrote old-bytes

-- ---- where deleted entries are not kept, there is none
none-there : (t : List ℕ) (u : Volume) → Opens t u → keeps_deleted u.geometry.edition ≡ false → (path : List ℕ) → first (deleted_at path) (entries u) ≡ none
none-there t u o strikes path =
    none_first (deleted_at path) (entries u)
    (all-weaken _ _ (λ e h. is_false (deleted_at path e) (λ a. not-both (keeps_deleted u.geometry.edition) (h (deleted_at-says path e a).0) strikes)) (entries u) (deleted-entries t u o))

struck : (s : List ℕ) (v : Volume) (path : List ℕ) (stamp second : ℤ) → Opens s v → DeletePassed s v path (deleted stamp) → writable v.geometry ≡ true
    → keeps_deleted v.geometry.edition ≡ false
    → let t : List ℕ = (delete_keep_of s path stamp).image in
    restore_of t path second ≡ refused_write t 11
struck s v path stamp second o d may strikes =
    let r = opens-struck s v path stamp o d strikes in
    let t : List ℕ = (delete_keep_of s path stamp).image in
    restore-none t r.0 (opens-judge t r.0 r.2) (ap writable r.1 ∙ may) path second d.named
    (none-there t r.0 r.2 (ap (λ (g : Geometry). keeps_deleted g.edition) r.1 ∙ strikes) path)

pub deleted-restored : DeletedRestored
unfolding delete_keep_of on_deletable
deleted-restored s v path e stamp bytes o f z =
    let d = delete-passed s v path (deleted stamp) o z in
    let i = judge-opens s v o in
    let may = passed-may s v _ o z in
    let t : List ℕ = (delete_keep_of s path stamp).image in
    pick-by (λ r. restore_of t path e.stamp ≡ r) (keeps_deleted v.geometry.edition) _ _
    (λ keeps.
    subst (λ (x : Entry). restore_of t path x.stamp ≡ pick (any (deleted_at path) (entries v)) (refused_write t 19) (wrote s))
    (some_same d.it e (sym d.found ∙ f))
    (rw (image-kept s v path stamp i d keeps) (back s v path stamp bytes i keeps d may (any (deleted_at path) (entries v)) refl)))
    (λ strikes. struck s v path stamp e.stamp i d may strikes)

-- ---- after a reclaim
none-deleted : (path : List ℕ) (es : List Entry) → first (deleted_at path) (undeleted es) ≡ none
unfolding deleted_at
none-deleted path es =
    none_first (deleted_at path) (undeleted es)
    (all-weaken _ _ (λ e h. and_left (is_deleted e) (eq_list e.path path) (not-true (is_deleted e) h))
    (undeleted es) (all-chosen (λ e. not (is_deleted e)) es))

pub still-may : (s : List ℕ) (v : Volume) (stamp : ℤ) → judge s ≡ accepted v → (reclaim_of s stamp).refusal ≡ 0
    → (w : Volume) → SameSealed w.geometry v.geometry → writable w.geometry ≡ true
unfolding reclaim_of writable
still-may s v stamp o z w same = ap₂ version_written same.edition-same same.version-same ∙ passed-may s v _ o z

pub reclaimed-restored : ReclaimedRestored
reclaimed-restored s v path first second o z p =
    let r = reclaim-reopens s v first o z in
    restore-none (reclaim_of s first).image r.volume r.opens (still-may s v first o z r.volume r.sealed) path second p
    (rw r.entries-are (none-deleted path (entries v)))
