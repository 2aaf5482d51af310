-- The run of the live entry of a path is made unused slots, in an image in which nothing is left over: the image opens, and the history sees what it saw but
-- for that entry.
use Prim.Native.Nat.{ℕ}
use mathlib.Core.Path.{◌≡◌, refl, sym, ap, ◌∙◌}
use mathlib.Core.Bool.{Bool, false, not}
use mathlib.Core.List.{List, [], ◌∷◌, ◌++◌, map}
use mathlib.Core.Option.{some}
use Rattle.rules.specs.Lists.{only}
use Rattle.rules.specs.Fields.{splice}
use Rattle.rules.specs.SuperBlock.{Geometry, block_length}
use Rattle.rules.specs.Index.{Entry, Item, entry, items_of, entries_of, slot_at, unused_bytes}
use Rattle.rules.specs.Paths.{live_at, lookup, any_below}
use Rattle.rules.specs.Refusals.{Volume, entries}
use Rattle.rules.specs.Writing.{without}
use Rattle.rules.specs.Refusals.Laws.{Opens, opens-judge, opens-super}
use Rattle.rules.specs.History.{kept_at}
use Rattle.after.specs.After.{is_named, seen, Left, sight, unusables}
use Rattle.laws.proofs.Lists.Parts.{all-parts}
use Rattle.laws.proofs.Lists.Perms.{perm-of}
use Rattle.laws.proofs.Index.Items.{is_tidy, IsTidy, tidy-sound, tidy-swap}
use Rattle.laws.proofs.Index.Places.{Found, entries_of-append}
use Rattle.laws.proofs.Index.Unused.{unused_from, unused_from-tidy, unused_from-entries}
use Rattle.laws.proofs.Index.Ends.{ends-good}
use Rattle.laws.proofs.Entries.Regions.{sound-only}
use Rattle.laws.proofs.Entries.Walked.{bare-entries}
use Rattle.laws.proofs.Entries.Paths.{paths-strike}
use Rattle.laws.proofs.Images.Inner.{Inner, inner-between, inner-opens}
use Rattle.laws.proofs.Images.Indexes.{cleared-inner, cleared-items}
use Rattle.laws.proofs.Images.Live.{place, without-it}
use Rattle.after.proofs.Sights.{seen-part, extents_of, without-seen, extents-without}

-- the entry, the only one that is live at its path
module _ (s : List ℕ) (v : Volume) (o : Opens s v) (neat : IsTidy v.items) (path : List ℕ) (it : Entry) (found : lookup path (entries v) ≡ some it) where
  abbrev g : Geometry
  g = v.geometry

  abbrev spot : Found (live_at path) v.items it
  spot = place s v path o it found

  abbrev pre : List Item
  pre = spot.pre

  abbrev post : List Item
  post = spot.post

  here : items_of s g ≡ pre ++ (entry it ∷ post)
  here = sym o.items-are ∙ spot.split

  before : IsTidy (pre ++ (entry it ∷ post))
  before = rw spot.split at neat

  abbrev free : List Item
  free = unused_from it.slot it.slots

  abbrev pub after : List Item
  after = pre ++ (free ++ post)

  behind : IsTidy after
  behind = tidy-swap pre (entry it ∷ []) free post before (unused_from-tidy it.slot it.slots)

  -- ---- the image that is left
  abbrev image : List ℕ
  image = splice s (slot_at s g it.slot) (unused_bytes g.edition it.slots)

  abbrev pub volume : Volume
  volume = record { geometry = g; items = after }

  inner : Inner s image g
  inner = cleared-inner s g o.geometry-good pre it post here (tidy-sound _ before)

  items : items_of image g ≡ after
  items = cleared-items s g o.geometry-good pre it post here (tidy-sound _ before) (all-parts is_tidy pre (entry it ∷ post) before).0

  abbrev stays : Entry → Bool
  stays e = not (live_at path e)

  entries-after : entries_of after ≡ without path (entries v)
  unfolding entries_of
  entries-after =
      entries_of-append pre (free ++ post)
      ∙ ap (λ (es : List Entry). entries_of pre ++ es) (entries_of-append free post ∙ ap (λ (es : List Entry). es ++ entries_of post) (unused_from-entries it.slot it.slots))
      ∙ sym (without-it s v path o it found)

  -- ---- what is seen of it
  sees : sight image volume ≡ only (λ k. not (kept_at path k)) (sight s v)
  unfolding sight
  sees =
      ap (λ es. map (seen image g) (only is_named es)) entries-after
      ∙ seen-part s image g g o.geometry-good (inner-between s image g o.geometry-good inner) refl stays (entries v) (bare-entries s v o) o.regions-sound
      ∙ without-seen s v path

  unusable : unusables volume ≡ unusables v
  unfolding unusables
  unusable = ap extents_of entries-after ∙ extents-without path (entries v)

  module _ (alone : any_below path (entries v) ≡ false) where
    pub strike-opens : Opens image volume
    strike-opens =
        inner-opens s image g o.geometry-good inner after (opens-super s v o) (ends-good s g v.items o.index-sound).0 items (tidy-sound after behind)
        (rw entries-after (sound-only g stays (entries v) o.regions-sound))
        (rw entries-after (paths-strike path (entries v) alone o.paths-sound))

    pub strike-left : Left image g.edition (block_length g) (only (λ k. not (kept_at path k)) (sight s v)) (unusables v)
    strike-left = record {
      volume = volume;
      opens = opens-judge image volume strike-opens;
      edition = refl;
      blocks = refl;
      agree = perm-of _ _ sees;
      unusable = perm-of _ _ unusable;
    }
