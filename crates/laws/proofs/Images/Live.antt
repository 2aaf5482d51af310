-- The live entry of a path in an image that opens: no other is live at the path, has its slot or shares a block with it.
use Prim.Native.Nat.{ℕ}
use mathlib.Core.Path.{◌≡◌, refl, sym, ap, subst, ◌∙◌}
use mathlib.Core.Bool.{true, false, not}
use mathlib.Core.List.{List, ◌∷◌, ◌++◌}
use mathlib.Core.Logic.{◌⊎◌}
use mathlib.Core.Option.{some}
use lib.Dec.{eqb}
use borrow.Author.Tests.{eq-eqb}
use Rattle.rules.specs.Lists.{only, All, Pairs}
use Rattle.rules.specs.SuperBlock.{Geometry}
use Rattle.rules.specs.Index.{Entry, entry, entries_of}
use Rattle.rules.specs.Regions.{region_good, apart}
use Rattle.rules.specs.Regions.Laws.{apart-back}
use Rattle.rules.specs.Paths.{is_live, live_at, lookup, paths_sound}
use Rattle.rules.specs.Refusals.{Volume, entries}
use Rattle.rules.specs.Refusals.Laws.{Opens}
use Rattle.rules.specs.Writing.{without, run_cleared, cleared}
use Rattle.laws.proofs.Lists.Every.{all-weaken, all-and, all-at, all_join, none_passes, only-but, pairs-split}
use Rattle.laws.proofs.Index.Places.{Found, first-split, entries_of-append}
use Rattle.laws.proofs.Index.Rising.{Rising, entries-rise, rising-alone}
use Rattle.laws.proofs.Entries.Regions.{Settled, Regionless, Within, placed, sound-says}
use Rattle.laws.proofs.Entries.Walked.{settled-entries}
use Rattle.laws.proofs.Entries.Paths.{live_at-says, live-alone, paths-says}
use Rattle.laws.proofs.Images.Clearing.{cleared-one}

module _ (s : List ℕ) (v : Volume) (path : List ℕ) (o : Opens s v) (it : Entry) (found : lookup path (entries v) ≡ some it) where
  pub place : Found (live_at path) v.items it
  unfolding lookup
  place = first-split (live_at path) v.items it found

  pub live : is_live it ≡ true
  live = (live_at-says path it place.passes).0

  pub at_path : it.path ≡ path
  at_path = (live_at-says path it place.passes).1

  abbrev pub pre : List Entry
  pre = entries_of place.pre

  abbrev pub post : List Entry
  post = entries_of place.post

  pub whole : entries v ≡ pre ++ (it ∷ post)
  unfolding entries_of
  whole = ap entries_of place.split ∙ entries_of-append place.pre (entry it ∷ place.post)

  -- it has no region, or one in the data area
  pub held : Regionless it ⊎ Within v.geometry it
  held =
      let each : All (λ f. Settled f × (region_good v.geometry f ≡ true)) (entries v) =
      all-and Settled _ (entries v) (settled-entries s v o) (sound-says v.geometry (entries v) o.regions-sound).each in
      let here = all-at _ pre it post (rw whole at each) in
      placed v.geometry it here.0 here.1

  -- ---- the others
  pub before : All (λ e. live_at path e ≡ false) pre
  before = none_passes (live_at path) pre place.before

  pub others : All (λ e. live_at path e ≡ false) post
  others =
      let sound : paths_sound (entries v) ≡ true = o.paths-sound in
      let differ = (paths-says _ (rw whole at sound)).differ in
      subst (λ (q : List ℕ). All (λ e. live_at q e ≡ false) post) at_path (live-alone pre it post differ live).1

  pub without-it : without path (entries v) ≡ pre ++ post
  without-it =
      ap (without path) whole
      ∙ only-but (λ e. not (live_at path e)) pre it post (all-weaken _ _ (λ e k. ap not k) pre before) (ap not place.passes) (all-weaken _ _ (λ e k. ap not k) post others)

  -- they are those with another slot
  pub without-slot : only (λ e. not (eqb e.slot it.slot)) (entries v) ≡ without path (entries v)
  without-slot =
      let rises : Rising 1 (entries v) = subst (λ is. Rising 1 (entries_of is)) (sym o.items-are) (entries-rise s v.geometry) in
      let alone = rising-alone 1 pre it post (rw whole at rises) in
      ap (only (λ (e : Entry). not (eqb e.slot it.slot))) whole
      ∙ only-but (λ e. not (eqb e.slot it.slot)) pre it post (all-weaken _ _ (λ e k. ap not k) pre alone.0) (ap not (eq-eqb it.slot it.slot refl)) (all-weaken _ _ (λ e k. ap not k) post alone.1)
      ∙ sym without-it

  -- their regions lie apart from its own
  pub others_apart : All (λ f. apart it f ≡ true) (without path (entries v))
  others_apart =
      let two : Pairs (λ e f. apart e f ≡ true) (entries v) = (sound-says v.geometry (entries v) o.regions-sound).two in
      let (p, q, r) = pairs-split (λ (e f : Entry). apart e f ≡ true) pre (it ∷ post) (rw whole at two) in
      subst (All (λ f. apart it f ≡ true)) (sym without-it)
      (all_join _ pre post (all-weaken _ _ (λ f c. apart-back it f ∙ c.0) pre r) q.0)

  -- ---- and to clear what is live at the path is to clear it
  pub cleared-live : (t : List ℕ) (g : Geometry) → cleared (live_at path) t g (entries v) ≡ run_cleared t g it
  cleared-live t g = ap (cleared (live_at path) t g) whole ∙ cleared-one (live_at path) t g pre it post before place.passes others
