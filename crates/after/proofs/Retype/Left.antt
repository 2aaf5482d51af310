-- One entry's type and stamp are written anew, where deleted entries are kept: the image opens, where the paths are sound, and the history sees what it saw but whether the
-- entry is live.
use Prim.Native.Nat.{ℕ}
use mathlib.Core.Path.{◌≡◌, refl, sym, ap, ◌∙◌}
use mathlib.Core.Bool.{Bool, true, false}
use mathlib.Core.List.{List, [], ◌∷◌, ◌++◌, map}
use lib.IntN.{ℤ}
use Rattle.rules.specs.Lists.{all, All}
use Rattle.rules.specs.Editions.{keeps_deleted}
use Rattle.rules.specs.SuperBlock.{block_length}
use Rattle.rules.specs.SuperBlock.Laws.{stored_stamp}
use Rattle.rules.specs.Index.{Entry, Item, entry, items_of, entries_of, slot_at, is_fault, retyped}
use Rattle.rules.specs.Paths.{is_live, paths_sound}
use Rattle.rules.specs.Refusals.{Volume, entries}
use Rattle.rules.specs.Refusals.Laws.{Opens, opens-judge, opens-super}
use Rattle.rules.specs.History.{Kept, with_live}
use Rattle.after.specs.After.{is_named, seen, Left, sight, unusables}
use Rattle.laws.proofs.Lists.Every.{none_passes}
use Rattle.laws.proofs.Lists.Perms.{perm-of}
use Rattle.laws.proofs.Index.Items.{NoFault, no_fault-swap}
use Rattle.laws.proofs.Index.Entries.{retyped_entry}
use Rattle.laws.proofs.Index.Places.{Found, entries_of-append}
use Rattle.laws.proofs.Index.Ends.{ends-good}
use Rattle.laws.proofs.Entries.Walked.{bare-entries}
use Rattle.laws.proofs.Entries.Retyping.{Retypes, retype_at, retype-one, retype-region, retype-regions}
use Rattle.laws.proofs.Images.Inner.{Inner, inner-between, inner-opens}
use Rattle.laws.proofs.Images.Indexes.{retyped-inner, retyped-items}
use Rattle.after.proofs.Sights.{extents_of, extents-map}
use Rattle.after.proofs.Retype.Seeing.{all_seen}

-- the entry that changes, the only one that passes the test
module _ (s : List ℕ) (v : Volume) (o : Opens s v) (keeps : keeps_deleted v.geometry.edition ≡ true) (p : Entry → Bool) (kinds : ℕ → ℕ) (r : Retypes p kinds) (stamp : ℤ) (it : Entry)
    (place : Found p v.items it) where
  pub entries-before : entries v ≡ entries_of place.pre ++ (it ∷ entries_of place.post)
  unfolding entries_of
  entries-before = ap entries_of place.split ∙ entries_of-append place.pre (entry it ∷ place.post)

  here : items_of s v.geometry ≡ place.pre ++ (entry it ∷ place.post)
  here = sym o.items-are ∙ place.split

  abbrev pub changed : Entry
  changed = retyped_entry (kinds it.kind) (stored_stamp stamp) it

  abbrev pub after : List Item
  after = place.pre ++ (entry changed ∷ place.post)

  pub entries-after : entries_of after ≡ entries_of place.pre ++ (changed ∷ entries_of place.post)
  unfolding entries_of
  entries-after = entries_of-append place.pre (entry changed ∷ place.post)

  sound-after : NoFault after
  unfolding all is_fault
  sound-after =
      no_fault-swap place.pre (entry it ∷ []) (entry changed ∷ []) place.post
      (rw place.split at (ends-good s v.geometry v.items o.index-sound).1) refl

  -- ---- the image that is left
  abbrev pub image : List ℕ
  image = retyped v.geometry.edition s (slot_at s v.geometry it.slot) (kinds it.kind) stamp

  abbrev pub volume : Volume
  volume = record { geometry = v.geometry; items = after }

  inner : Inner s image v.geometry
  inner = retyped-inner s v.geometry o.geometry-good place.pre it place.post here (kinds it.kind) stamp

  module _ (alone : All (λ e. p e ≡ false) (entries_of place.post)) where
    pub entries-map : entries_of after ≡ map (retype_at p kinds (stored_stamp stamp)) (entries v)
    entries-map =
        entries-after
        ∙ sym
        (retype-one p kinds (stored_stamp stamp) (entries_of place.pre) it (entries_of place.post) (none_passes p _ place.before) place.passes alone)
        ∙ ap (map (retype_at p kinds (stored_stamp stamp))) (sym entries-before)

    module _ (paths : paths_sound (map (retype_at p kinds (stored_stamp stamp)) (entries v)) ≡ true) where
      pub opens : Opens image volume
      opens =
          inner-opens s image v.geometry o.geometry-good inner after (opens-super s v o) (ends-good s v.geometry v.items o.index-sound).0
          (retyped-items s v.geometry o.geometry-good place.pre it place.post here (kinds it.kind) stamp keeps
          (r.named it place.passes) (r.run it.kind) (r.file it.kind))
          sound-after
          (rw entries-map (retype-regions p kinds (stored_stamp stamp) r v.geometry (entries v) ∙ o.regions-sound))
          (rw entries-map paths)

      unusable : unusables volume ≡ unusables v
      unfolding unusables
      unusable = ap extents_of entries-map ∙ extents-map (retype_at p kinds (stored_stamp stamp)) (retype-region p kinds (stored_stamp stamp) r) (entries v)

      pub retype-left : (live : Kept → Bool)
          → All (λ e. is_named e ≡ true → is_live (retype_at p kinds (stored_stamp stamp) e) ≡ live (seen s v.geometry e)) (entries v)
          → Left image v.geometry.edition (block_length v.geometry) (map (λ k. with_live k (live k)) (sight s v)) (unusables v)
      unfolding sight
      retype-left live l = record {
        volume = volume;
        opens = opens-judge image volume opens;
        edition = refl;
        blocks = refl;
        agree =
            perm-of _ _
            (rw entries-map
            (all_seen s image v.geometry o.geometry-good (inner-between s image v.geometry o.geometry-good inner)
            p kinds r (stored_stamp stamp) live (entries v) (bare-entries s v o) o.regions-sound l));
        unusable = perm-of _ _ unusable;
      }
