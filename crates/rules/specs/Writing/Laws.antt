-- Laws of the writing calls: one for each way that a call can end.
use Rattle.std.specs.Prelude.{ℕ, ◌+◌, ◌*◌, ◌≤◌, ◌≡◌, refl, Bool, true, false, not, length, replicate, leb, ℤ}
use Rattle.std.proofs.Common.{sym, subst, ◌∙◌, arith}
use mathlib.Core.List.{List, []}
use Rattle.std.proofs.Math.Option.{Option, none, some}
use Rattle.std.proofs.lemmas.List.{length-replicate}
use Rattle.rules.specs.Lists.{only, first, is_some, part}
use Rattle.rules.specs.Fields.{splice}
use Rattle.rules.specs.Fields.Laws.{part-splice-in}
use Rattle.rules.specs.Editions.{version_named, edition_named}
use Rattle.rules.specs.SuperBlock.{Geometry, block_length, length_good, field_of, geometry_good, put_sizes, writable}
use Rattle.rules.specs.Names.{path_good, new_path_good, volume_name_good, leading}
use Rattle.rules.specs.Index.{Entry, slot_at}
use Rattle.rules.specs.Regions.{blocks_of}
use Rattle.rules.specs.Paths.{is_deleted, deleted_at, lookup, any_below}
use Rattle.rules.specs.Refusals.{Verdict, refused, accepted, need, need_found, and_then, Volume, entries, judge}
use Rattle.rules.specs.Refusals.Laws.{need-true, need-false, found_none, found_some}
use Rattle.rules.specs.Outcome.{done, conclude, on_volume}
use Rattle.rules.specs.Outcome.Laws.{denied, conclude-refused, conclude-accepted, volume-refused, volume-denied, volume-done}
use Rattle.rules.specs.Writing.{Written, New, tidied, format_of, fresh_geometry, formatted, create_of, nearest_live, new_slots, new_blocks, Place, place_run, place_file, site_of, created, region_cleared, trimmed_to, on_deletable, wiped, delete_of, deleted, delete_keep_of, DeletesAlike, restore_of, restored, reclaim_of, undeleted, cleared}

abbrev pub refused_write : List ℕ → ℕ → Written
refused_write s n = denied tt s [] n

abbrev pub wrote : List ℕ → Written
wrote t = done tt t []

-- the image that an accepted call begins with
abbrev pub tidy_image : List ℕ → Volume → List ℕ
tidy_image s v = tidied s v.geometry v.items

-- ---- format
module _ (s : List ℕ) (version bytes reserved : ℕ) (name : List ℕ) (stamp : ℤ) where
  pub format-length : length_good (length s) ≡ false → format_of s version bytes reserved name stamp ≡ refused_write s 1
  unfolding format_of
  format-length l = conclude-refused tt s [] 1 (need-false 1 _ l)

  module _ (l : length_good (length s) ≡ true) where
    pub format-version : version_named version ≡ false → format_of s version bytes reserved name stamp ≡ refused_write s 5
    unfolding format_of
    format-version w = conclude-refused tt s [] 5 (need-true 1 _ l ∙ need-false 5 _ w)

    module _ (w : version_named version ≡ true) where
      pub format-block : field_of bytes ≡ none → format_of s version bytes reserved name stamp ≡ refused_write s 5
      unfolding format_of
      format-block f = conclude-refused tt s [] 5 (need-true 1 _ l ∙ need-true 5 _ w ∙ found_none 5 _ f)

      module _ (b : ℕ) (f : field_of bytes ≡ some b) where
        -- the geometry that results
        abbrev pub fresh : Geometry
        fresh = fresh_geometry (edition_named version) (length s) b reserved stamp

        pub format-geometry : geometry_good (length s) fresh ≡ false → format_of s version bytes reserved name stamp ≡ refused_write s 5
        unfolding format_of
        format-geometry g = conclude-refused tt s [] 5 (need-true 1 _ l ∙ need-true 5 _ w ∙ found_some 5 _ f ∙ need-false 5 _ g)

        module _ (g : geometry_good (length s) fresh ≡ true) where
          pub format-name : volume_name_good name ≡ false → format_of s version bytes reserved name stamp ≡ refused_write s 10
          unfolding format_of
          format-name n = conclude-refused tt s [] 10 (need-true 1 _ l ∙ need-true 5 _ w ∙ found_some 5 _ f ∙ need-true 5 _ g ∙ need-false 10 _ n)

          pub format-done : volume_name_good name ≡ true → format_of s version bytes reserved name stamp ≡ wrote (formatted s fresh name)
          unfolding format_of
          format-done n = conclude-accepted tt s [] _ (need-true 1 _ l ∙ need-true 5 _ w ∙ found_some 5 _ f ∙ need-true 5 _ g ∙ need-true 10 _ n)

-- ---- an image that does not open
module _ (s : List ℕ) (n : ℕ) (bad : judge s ≡ refused n) where
  pub create-refused : (new : New) (path : List ℕ) (stamp : ℤ) → create_of s new path stamp ≡ refused_write s n
  unfolding create_of
  create-refused new path stamp = volume-refused tt s [] _ n bad

  pub deletable-refused : (path : List ℕ) (write : List ℕ → Volume → Entry → List ℕ) → on_deletable s path write ≡ refused_write s n
  unfolding on_deletable
  deletable-refused path write = volume-refused tt s [] _ n bad

  pub restore-refused : (path : List ℕ) (stamp : ℤ) → restore_of s path stamp ≡ refused_write s n
  unfolding restore_of
  restore-refused path stamp = volume-refused tt s [] _ n bad

  pub reclaim-refused : (stamp : ℤ) → reclaim_of s stamp ≡ refused_write s n
  unfolding reclaim_of
  reclaim-refused stamp = volume-refused tt s [] _ n bad

-- ---- one that opens, of a version that may only be read
module _ (s : List ℕ) (v : Volume) (opens : judge s ≡ accepted v) where
  module _ (later : writable v.geometry ≡ false) where
    pub create-later : (new : New) (path : List ℕ) (stamp : ℤ) → create_of s new path stamp ≡ refused_write s 9
    unfolding create_of
    create-later new path stamp = volume-denied tt s [] _ v 9 opens (need-false 9 _ later)

    pub deletable-later : (path : List ℕ) (write : List ℕ → Volume → Entry → List ℕ) → on_deletable s path write ≡ refused_write s 9
    unfolding on_deletable
    deletable-later path write = volume-denied tt s [] _ v 9 opens (need-false 9 _ later)

    pub restore-later : (path : List ℕ) (stamp : ℤ) → restore_of s path stamp ≡ refused_write s 9
    unfolding restore_of
    restore-later path stamp = volume-denied tt s [] _ v 9 opens (need-false 9 _ later)

    pub reclaim-later : (stamp : ℤ) → reclaim_of s stamp ≡ refused_write s 9
    unfolding reclaim_of
    reclaim-later stamp = volume-denied tt s [] _ v 9 opens (need-false 9 _ later)

  -- ---- and one that may be written
  module _ (may : writable v.geometry ≡ true) where
    module _ (new : New) (path : List ℕ) (stamp : ℤ) where
      pub create-name : new_path_good path ≡ false → create_of s new path stamp ≡ refused_write s 10
      unfolding create_of
      create-name p = volume-denied tt s [] _ v 10 opens (need-true 9 _ may ∙ need-false 10 _ p)

      module _ (p : new_path_good path ≡ true) where
        pub create-live : (e : Entry) → lookup path (entries v) ≡ some e → create_of s new path stamp ≡ refused_write s 12
        unfolding create_of is_some
        create-live e f = volume-denied tt s [] _ v 12 opens (need-true 9 _ may ∙ need-true 10 _ p ∙ need-false 12 _ (rw f))

        module _ (f : lookup path (entries v) ≡ none) where
          free : not (is_some (lookup path (entries v))) ≡ true
          unfolding is_some
          free = rw f

          pub create-orphan : nearest_live (entries v) (leading path) ≡ false → create_of s new path stamp ≡ refused_write s 13
          unfolding create_of
          create-orphan d = volume-denied tt s [] _ v 13 opens (need-true 9 _ may ∙ need-true 10 _ p ∙ need-true 12 _ free ∙ need-false 13 _ d)

          module _ (d : nearest_live (entries v) (leading path) ≡ true) where
            pub create-slots : place_run (length s) v path (new_slots v.geometry.edition new path) ≡ none → create_of s new path stamp ≡ refused_write s 15
            unfolding create_of
            create-slots r =
                volume-denied tt s [] _ v 15 opens (need-true 9 _ may ∙ need-true 10 _ p ∙ need-true 12 _ free ∙ need-true 13 _ d ∙ found_none 15 _ r)

            module _ (q : Place) (r : place_run (length s) v path (new_slots v.geometry.edition new path) ≡ some q) where
              pub create-blocks : place_file (length s) q.geometry (entries v) (new_blocks v.geometry new) ≡ none
                  → create_of s new path stamp ≡ refused_write s 16
              unfolding create_of
              create-blocks b =
                  volume-denied tt s [] _ v 16 opens
                  (need-true 9 _ may ∙ need-true 10 _ p ∙ need-true 12 _ free ∙ need-true 13 _ d ∙ found_some 15 _ r ∙ found_none 16 _ b)

              pub create-done : (start : ℕ)
                  → place_file (length s) q.geometry (entries v) (new_blocks v.geometry new) ≡ some start
                  → create_of s new path stamp ≡ wrote (created (tidy_image s v) (site_of v new path stamp q start) new path stamp)
              unfolding create_of
              create-done start b =
                  volume-done tt s [] _ v _ opens
                  (need-true 9 _ may ∙ need-true 10 _ p ∙ need-true 12 _ free ∙ need-true 13 _ d ∙ found_some 15 _ r ∙ found_some 16 _ b)

    -- both deletes, whatever they write
    module _ (path : List ℕ) (write : List ℕ → Volume → Entry → List ℕ) where
      pub deletable-name : path_good path ≡ false → on_deletable s path write ≡ refused_write s 10
      unfolding on_deletable
      deletable-name p = volume-denied tt s [] _ v 10 opens (need-true 9 _ may ∙ need-false 10 _ p)

      module _ (p : path_good path ≡ true) where
        pub deletable-none : lookup path (entries v) ≡ none → on_deletable s path write ≡ refused_write s 11
        unfolding on_deletable
        deletable-none f = volume-denied tt s [] _ v 11 opens (need-true 9 _ may ∙ need-true 10 _ p ∙ found_none 11 _ f)

        module _ (e : Entry) (f : lookup path (entries v) ≡ some e) where
          pub deletable-full : any_below path (entries v) ≡ true → on_deletable s path write ≡ refused_write s 14
          unfolding on_deletable
          deletable-full b = volume-denied tt s [] _ v 14 opens (need-true 9 _ may ∙ need-true 10 _ p ∙ found_some 11 _ f ∙ need-false 14 _ (rw b))

          pub deletable-done : any_below path (entries v) ≡ false → on_deletable s path write ≡ wrote (write (tidy_image s v) v e)
          unfolding on_deletable
          deletable-done b = volume-done tt s [] _ v _ opens (need-true 9 _ may ∙ need-true 10 _ p ∙ found_some 11 _ f ∙ need-true 14 _ (rw b))

    module _ (path : List ℕ) (stamp : ℤ) where
      pub restore-name : path_good path ≡ false → restore_of s path stamp ≡ refused_write s 10
      unfolding restore_of
      restore-name p = volume-denied tt s [] _ v 10 opens (need-true 9 _ may ∙ need-false 10 _ p)

      module _ (p : path_good path ≡ true) where
        pub restore-none : first (deleted_at path) (entries v) ≡ none → restore_of s path stamp ≡ refused_write s 11
        unfolding restore_of
        restore-none f = volume-denied tt s [] _ v 11 opens (need-true 9 _ may ∙ need-true 10 _ p ∙ found_none 11 _ f)

        module _ (e : Entry) (f : first (deleted_at path) (entries v) ≡ some e) where
          pub restore-live : is_some (lookup path (entries v)) ≡ true → restore_of s path stamp ≡ refused_write s 12
          unfolding restore_of
          restore-live l = volume-denied tt s [] _ v 12 opens (need-true 9 _ may ∙ need-true 10 _ p ∙ found_some 11 _ f ∙ need-false 12 _ (rw l))

          module _ (l : is_some (lookup path (entries v)) ≡ false) where
            pub restore-orphan : nearest_live (entries v) (leading path) ≡ false → restore_of s path stamp ≡ refused_write s 13
            unfolding restore_of
            restore-orphan d =
                volume-denied tt s [] _ v 13 opens
                (need-true 9 _ may ∙ need-true 10 _ p ∙ found_some 11 _ f ∙ need-true 12 _ (rw l) ∙ need-false 13 _ d)

            module _ (d : nearest_live (entries v) (leading path) ≡ true) where
              pub restore-several : leb (length (only (deleted_at path) (entries v))) 1 ≡ false → restore_of s path stamp ≡ refused_write s 19
              unfolding restore_of
              restore-several n =
                  volume-denied tt s [] _ v 19 opens
                  (need-true 9 _ may ∙ need-true 10 _ p ∙ found_some 11 _ f ∙ need-true 12 _ (rw l) ∙ need-true 13 _ d ∙ need-false 19 _ n)

              pub restore-done : leb (length (only (deleted_at path) (entries v))) 1 ≡ true
                  → restore_of s path stamp ≡ wrote (restored v.geometry.edition (tidy_image s v) (slot_at (tidy_image s v) v.geometry e.slot) e stamp)
              unfolding restore_of
              restore-done n =
                  volume-done tt s [] _ v _ opens
                  (need-true 9 _ may ∙ need-true 10 _ p ∙ found_some 11 _ f ∙ need-true 12 _ (rw l) ∙ need-true 13 _ d ∙ need-true 19 _ n)

    pub reclaim-done : (stamp : ℤ)
        → let g : Geometry = trimmed_to (undeleted (entries v)) v.geometry stamp in
        reclaim_of s stamp ≡ wrote (cleared is_deleted (put_sizes (tidy_image s v) g) g (entries v))
    unfolding reclaim_of
    reclaim-done stamp = volume-done tt s [] _ v _ opens (need-true 9 _ may)

-- ---- a region that was cleared is zeros
pub region-zeros : (s : List ℕ) (g : Geometry) (e : Entry) → e.start * block_length g + blocks_of e * block_length g ≤ length s
    → part (region_cleared s g e) (e.start * block_length g) (blocks_of e * block_length g) ≡ replicate (blocks_of e * block_length g) 0
unfolding region_cleared
region-zeros s g e room =
    let bytes : ℕ = blocks_of e * block_length g in
    let full : length (replicate {A = ℕ} bytes 0) ≡ bytes = length-replicate bytes 0 in
    subst (λ (n : ℕ). part (splice s (e.start * block_length g) (replicate bytes 0)) (e.start * block_length g) n ≡ replicate bytes 0) full
    (part-splice-in s (e.start * block_length g) (replicate bytes 0) (omega (arith, full, room)))

-- ---- both deletes refuse alike: what a call writes is no part of its number
number_of : Verdict Written → ℕ
number_of (refused n) = n
number_of (accepted o) = o.refusal

number_is : (s : List ℕ) (d : Verdict Written) → (conclude tt s [] d).refusal ≡ number_of d
unfolding conclude number_of
number_is s (refused n) = refl
number_is s (accepted o) = refl

need-alike : (b : Bool) (n : ℕ) (d e : Verdict Written) → number_of d ≡ number_of e → number_of (need b n d) ≡ number_of (need b n e)
unfolding need number_of
need-alike true n d e h = h
need-alike false n d e h = refl

found_alike : (o : Option Entry) (n : ℕ) (f g : Entry → Verdict Written) → ((x : Entry) → number_of (f x) ≡ number_of (g x)) → number_of (need_found o n f) ≡ number_of (need_found o n g)
unfolding need_found number_of
found_alike none n f g h = refl
found_alike (some x) n f g h = h x

then-alike : (d : Verdict Volume) (f g : Volume → Verdict Written) → ((v : Volume) → number_of (f v) ≡ number_of (g v)) → number_of (and_then d f) ≡ number_of (and_then d g)
unfolding and_then number_of
then-alike (refused n) f g h = refl
then-alike (accepted v) f g h = h v

number-alike : (s path : List ℕ) (write other : List ℕ → Volume → Entry → List ℕ) → (on_deletable s path write).refusal ≡ (on_deletable s path other).refusal
unfolding on_deletable on_volume done number_of
number-alike s path write other =
    number_is s _
    ∙ then-alike (judge s) _ _ (λ v.
    need-alike (writable v.geometry) 9 _ _
    (need-alike (path_good path) 10 _ _
    (found_alike (lookup path (entries v)) 11 _ _ (λ e. need-alike (not (any_below path (entries v))) 14 _ _ refl))))
    ∙ sym (number_is s _)

pub deletes-alike : DeletesAlike
unfolding delete_of delete_keep_of
deletes-alike s path stamp other = number-alike s path (wiped path stamp) (deleted other)
