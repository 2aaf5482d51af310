-- What is judged and seen of the entries after a create. Assumes nothing.
use Prim.Native.Nat.{ℕ, ◌-◌}
use mathlib.Core.Path.{◌≡◌, refl, sym, ap, ◌∙◌}
use mathlib.Core.Bool.{true}
use mathlib.Core.List.{List, map}
use native.Mathlib.Omega.{arith}
use lib.ListN.{length}
use Rattle.rules.specs.Lists.{pick, only, Perm}
use Rattle.rules.specs.Editions.{Edition}
use Rattle.rules.specs.SuperBlock.{Geometry}
use Rattle.rules.specs.Index.{Entry, file_type, live_type}
use Rattle.rules.specs.Regions.{extent_of, blocks_of, blocks_needed, regions_sound}
use Rattle.rules.specs.Paths.{is_live, paths_sound}
use Rattle.rules.specs.Reading.{file_bytes}
use Rattle.rules.specs.Writing.{New, new_file, new_directory, kind_of, bytes_of, live_kind}
use Rattle.rules.specs.History.{kept_of}
use Rattle.after.specs.After.{is_named, seen, is_unusable}
use Rattle.laws.proofs.Lists.Parts.{only-map, map-map}
use Rattle.laws.proofs.Lists.Perms.{perm-map, perm-only}
use Rattle.laws.proofs.Entries.Regions.{SameRegion, same-region, sound-map, sound-perm}
use Rattle.laws.proofs.Entries.Paths.{SamePath, paths-map, paths-perm}
use Rattle.after.proofs.Sights.{extents_of, extents-map}
use Rattle.after.proofs.Create.Added.{core}
use Rattle.after.proofs.Create.Made.{Made}

-- ---- entries that differ in slots and stamps are judged and seen alike
core-region : (e : Entry) → SameRegion e (core e)
unfolding core
core-region e = same-region e (core e) refl refl refl refl

core-path : (e : Entry) → SamePath e (core e)
unfolding core
core-path e = record { kind = refl; path = refl }

core-seen : (t : List ℕ) (g : Geometry) (es : List Entry) → map (seen t g) (only is_named (map core es)) ≡ map (seen t g) (only is_named es)
unfolding core seen is_named file_bytes blocks_of is_live
core-seen t g es = ap (map (seen t g)) (only-map is_named core es) ∙ map-map (seen t g) core (only is_named es)

module _ (es fs : List Entry) (p : Perm (map core es) (map core fs)) where
  pub regions-order : (g : Geometry) → regions_sound g es ≡ regions_sound g fs
  regions-order g = sym (sound-map g core core-region es) ∙ sound-perm g p ∙ sound-map g core core-region fs

  pub paths-order : paths_sound es ≡ paths_sound fs
  paths-order = sym (paths-map core core-path es) ∙ paths-perm p ∙ paths-map core core-path fs

  pub seen-order : (t : List ℕ) (g : Geometry) → Perm (map (seen t g) (only is_named es)) (map (seen t g) (only is_named fs))
  seen-order t g = rw (← core-seen t g es, ← core-seen t g fs) (perm-map (seen t g) (perm-only is_named p))

  pub extents-order : Perm (extents_of es) (extents_of fs)
  extents-order = rw (← extents-map core core-region es, ← extents-map core core-region fs) (perm-map extent_of (perm-only is_unusable p))

-- ---- the new entry
new-kind : (new : New) → (live_kind (kind_of new) ≡ kind_of new) × (live_type (kind_of new) ≡ true)
unfolding kind_of live_kind file_type live_type pick
new-kind (new_file bytes) = (refl, refl)
new-kind new_directory = (refl, refl)

pub seen-new : (t : List ℕ) (w : Geometry) (e : Entry) (ed : Edition) (n : New) (path : List ℕ) (slot start blocks : ℕ) → Made ed n path slot start blocks e
    → file_bytes t w e ≡ bytes_of n → (block : ℕ) → blocks ≡ blocks_needed block (length (bytes_of n))
    → seen t w e ≡ kept_of block n path
unfolding seen kept_of is_live blocks_of
seen-new t w e ed n path slot start blocks m bytes-are block q =
    let k = new-kind n in
    let kind-is : live_kind e.kind ≡ kind_of n = ap live_kind m.kind-is ∙ k.0 in
    let blocks-are : e.end - e.start ≡ blocks_needed block (length (bytes_of n)) = omega (arith, m.start_is, m.end_is) in
    let live-is : live_type e.kind ≡ true = ap live_type m.kind-is ∙ k.1 in
    cc (m.path-is, kind-is, bytes-are, blocks-are, live-is)
