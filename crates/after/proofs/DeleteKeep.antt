-- An accepted delete that keeps leaves an image that opens, with its entry marked deleted, or struck where deleted entries are not kept.
use Prim.Native.Nat.{ℕ}
use mathlib.Core.Path.{◌≡◌, refl, ap, ◌∙◌}
use mathlib.Core.Bool.{Bool, true, false, ◌&&◌, not}
use mathlib.Core.List.{List, map}
use mathlib.Core.Option.{some}
use lib.IntN.{ℤ}
use Rattle.rules.specs.Lists.{pick, only, eq_list}
use Rattle.rules.specs.Lists.Laws.{and-true, pick_true, pick-false}
use Rattle.rules.specs.Fields.{splice}
use Rattle.rules.specs.Editions.{keeps_deleted}
use Rattle.rules.specs.SuperBlock.{block_length}
use Rattle.rules.specs.SuperBlock.Laws.{stored_stamp}
use Rattle.rules.specs.Index.{Entry, entry, slot_at, unused_bytes, retyped}
use Rattle.rules.specs.Paths.{is_live, live_at, lookup, any_below}
use Rattle.rules.specs.Refusals.{accepted, Volume, entries}
use Rattle.rules.specs.Refusals.Laws.{Opens, judge-opens}
use Rattle.rules.specs.Writing.{deleted_kind, deleted, delete_keep_of}
use Rattle.rules.specs.Writing.Laws.{tidy_image}
use Rattle.rules.specs.History.{kept_at, marked}
use Rattle.after.specs.After.{seen, Left, sight, unusables, AfterDeleteKeep}
use Rattle.laws.proofs.Lists.Every.{all_of, pick-by}
use Rattle.laws.proofs.Index.Entries.{retyped_entry}
use Rattle.laws.proofs.Entries.EntryKinds.{deleted-gone}
use Rattle.laws.proofs.Entries.Retyping.{retype-by}
use Rattle.laws.proofs.Entries.Deleting.{delete_at, deletes, delete-paths}
use Rattle.laws.proofs.Images.Live.{place, others}
use Rattle.laws.proofs.Images.Tidying.{settled_volume, settled-entries, opens-settled, tidied-kept, tidied-opens}
use Rattle.after.proofs.Tidied.{sight-tidied, unusables-tidied}
use Rattle.after.proofs.Retype.Left.{retype-left}
use Rattle.after.proofs.Deletable.{DeletePassed, delete-passed}
use Rattle.after.proofs.Strike.{volume, strike-opens, strike-left}

-- ---- the live entry of the path, and no other
-- a test that fails together with another
not-too : (a b : Bool) → (a && b) ≡ false → a ≡ (a && not b)
not-too true true e = e
not-too true false e = refl
not-too false b e = refl

both-fail : (a b : Bool) → (a && b) ≡ true → false ≡ (a && not b)
both-fail a b e = let p = and-true a b e in rw (p.0, p.1)

mark : (path : List ℕ) (stamp : ℤ) (e : Entry) → is_live (delete_at path stamp e) ≡ (is_live e && not (eq_list e.path path))
unfolding is_live live_at retyped_entry
mark path stamp e =
    retype-by (live_at path) deleted_kind stamp (λ x. is_live x ≡ (is_live e && not (eq_list e.path path))) e
    (λ h. deleted-gone e.kind ∙ both-fail (is_live e) (eq_list e.path path) h)
    (λ h. not-too (is_live e) (eq_list e.path path) h)

module _ (s : List ℕ) (v : Volume) (path : List ℕ) (stamp : ℤ) (o : Opens s v) (d : DeletePassed s v path (deleted stamp)) where
  -- ---- where deleted entries are kept, its type and its stamp
  pub image-kept : keeps_deleted v.geometry.edition ≡ true
      → (delete_keep_of s path stamp).image ≡ retyped v.geometry.edition s (slot_at s v.geometry d.it.slot) (deleted_kind d.it.kind) stamp
  unfolding deleted delete_keep_of
  image-kept keeps = d.image ∙ rw (tidied-kept s v o keeps) (pick_true _ _ keeps)

  left-marked : keeps_deleted v.geometry.edition ≡ true
      → Left (delete_keep_of s path stamp).image v.geometry.edition (block_length v.geometry) (map (marked path) (sight s v)) (unusables v)
  unfolding marked seen
  left-marked keeps =
      rw (image-kept keeps)
      (retype-left s v o keeps (live_at path) deleted_kind (deletes path) stamp d.it (place s v path o d.it d.found) (others s v path o d.it d.found)
      (delete-paths path (stored_stamp stamp) (entries v) d.alone o.paths-sound)
      (λ k. k.live && not (eq_list k.path path))
      (all_of _ (λ e n. mark path (stored_stamp stamp) e) (entries v)))

  -- ---- else unused slots, in the tidied image
  abbrev t : List ℕ
  t = tidy_image s v

  abbrev w : Volume
  w = settled_volume v

  image-struck : keeps_deleted v.geometry.edition ≡ false
      → (delete_keep_of s path stamp).image ≡ splice t (slot_at t v.geometry d.it.slot) (unused_bytes v.geometry.edition d.it.slots)
  unfolding deleted delete_keep_of
  image-struck strikes = d.image ∙ pick-false _ _ strikes

  module _ (strikes : keeps_deleted v.geometry.edition ≡ false) where
    o₂ : Opens t w
    o₂ = tidied-opens s v o

    same : entries w ≡ entries v
    same = settled-entries v.items

    found : lookup path (entries w) ≡ some d.it
    found = ap (lookup path) same ∙ d.found

    alone : any_below path (entries w) ≡ false
    alone = ap (any_below path) same ∙ d.alone

    left-struck : Left (delete_keep_of s path stamp).image v.geometry.edition (block_length v.geometry) (only (λ k. not (kept_at path k)) (sight s v)) (unusables v)
    left-struck =
        rw (image-struck strikes, ← sight-tidied s v o, ← unusables-tidied v)
        (strike-left t w o₂ (opens-settled s v o) path d.it found alone)

    -- it opens with the geometry that it had
    pub opens-struck : (u : Volume) × (u.geometry ≡ v.geometry) × Opens (delete_keep_of s path stamp).image u
    opens-struck = (
      volume t w o₂ (opens-settled s v o) path d.it found,
      refl,
      rw (image-struck strikes)
          (strike-opens t w o₂ (opens-settled s v o) path d.it found alone),
    )

  left : Left (delete_keep_of s path stamp).image v.geometry.edition (block_length v.geometry)
      (pick (keeps_deleted v.geometry.edition) (map (marked path) (sight s v)) (only (λ k. not (kept_at path k)) (sight s v))) (unusables v)
  left =
      pick-by (λ told. Left (delete_keep_of s path stamp).image v.geometry.edition (block_length v.geometry) told (unusables v))
      (keeps_deleted v.geometry.edition) _ _ left-marked left-struck

pub delete-keep-left : AfterDeleteKeep
unfolding delete_keep_of
delete-keep-left s v path stamp o z = left s v path stamp (judge-opens s v o) (delete-passed s v path (deleted stamp) o z)
