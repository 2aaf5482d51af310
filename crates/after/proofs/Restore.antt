-- An accepted restore leaves an image that opens, with its path's deleted entry live again.
use Prim.Native.Nat.{ℕ}
use mathlib.Core.Path.{◌≡◌, refl, sym, ap, ◌∙◌}
use mathlib.Core.Bool.{Bool, true, false, ◌&&◌, ◌||◌, not}
use mathlib.Core.List.{List, ◌∷◌, ◌++◌, map}
use mathlib.Core.Option.{none, some}
use native.Mathlib.Omega.{arith}
use lib.Dec.{leb}
use lib.ListN.{length}
use lib.IntN.{ℤ}
use borrow.Author.Tests.{not-true}
use Rattle.rules.specs.Lists.{only, first, is_some, eq_list, All}
use Rattle.rules.specs.Lists.Laws.{clash, and-true, or_right, is_none}
use Rattle.rules.specs.Editions.{keeps_deleted}
use Rattle.rules.specs.SuperBlock.{block_length}
use Rattle.rules.specs.SuperBlock.Laws.{stored_stamp}
use Rattle.rules.specs.Names.{path_good, leading}
use Rattle.rules.specs.Index.{Entry, entries_of, slot_at}
use Rattle.rules.specs.Paths.{is_live, is_deleted, deleted_at, lookup, paths_sound}
use Rattle.rules.specs.Refusals.{accepted, Volume, entries, judge}
use Rattle.rules.specs.Refusals.Laws.{Opens, judge-opens}
use Rattle.rules.specs.Writing.{Written, nearest_live, live_kind, restored, restore_of}
use Rattle.rules.specs.Writing.Laws.{tidy_image}
use Rattle.rules.specs.History.{revived}
use Rattle.after.specs.After.{is_named, seen, Left, sight, unusables, AfterRestore}
use Rattle.laws.proofs.Lists.Every.{all_of, none_passes, first_says, all_first, only_at, only_one}
use Rattle.laws.proofs.Index.Entries.{retyped_entry}
use Rattle.laws.proofs.Index.Places.{Found, first-split}
use Rattle.laws.proofs.Entries.EntryKinds.{run-either, live_back}
use Rattle.laws.proofs.Entries.Paths.{deleted_at-says, paths-restore}
use Rattle.laws.proofs.Entries.Walked.{deleted-entries}
use Rattle.laws.proofs.Entries.Retyping.{retype-one, retype-by}
use Rattle.laws.proofs.Entries.Restoring.{restore_at, restores}
use Rattle.laws.proofs.Images.Accepted.{passed-need, passed-found, passed-writable, passed-done}
use Rattle.laws.proofs.Images.Tidying.{tidied-kept}
use Rattle.after.proofs.Retype.Left.{entries-before, retype-left}

-- ---- what an accepted restore has passed
record RestorePassed (s : List ℕ) (v : Volume) (path : List ℕ) (stamp : ℤ) : Type 0 where
  it : Entry
  found : first (deleted_at path) (entries v) ≡ some it
  free : lookup path (entries v) ≡ none
  nearest : nearest_live (entries v) (leading path) ≡ true
  one : leb (length (only (deleted_at path) (entries v))) 1 ≡ true
  image : (restore_of s path stamp).image ≡ restored v.geometry.edition (tidy_image s v) (slot_at (tidy_image s v) v.geometry it.slot) it stamp

restore-passed : (s : List ℕ) (v : Volume) (path : List ℕ) (stamp : ℤ) → judge s ≡ accepted v → (restore_of s path stamp).refusal ≡ 0
    → RestorePassed s v path stamp
unfolding restore_of
restore-passed s v path stamp o z =
    let w : Written = restore_of s path stamp in
    let p₁ = passed-need s w z (path_good path) 10 _ (omega arith) (passed-writable s v _ o z) in
    let p₂ = passed-found s w z (first (deleted_at path) (entries v)) 11 _ (omega arith) p₁.1 in
    let p₃ = passed-need s w z (not (is_some (lookup path (entries v)))) 12 _ (omega arith) p₂.2 in
    let p₄ = passed-need s w z (nearest_live (entries v) (leading path)) 13 _ (omega arith) p₃.1 in
    let p₅ = passed-need s w z (leb (length (only (deleted_at path) (entries v))) 1) 19 _ (omega arith) p₄.1 in
    record { it = p₂.0; found = p₂.1; free = is_none _ (not-true _ p₃.0); nearest = p₄.0; one = p₅.0; image = passed-done s _ w p₅.1 }

-- ---- the deleted entry of the path, and no other
-- of a name that is live or deleted
live-too : (l d q : Bool) → (l || d) ≡ true → (d && q) ≡ false → l ≡ (l || q)
live-too true d q e f = refl
live-too false true q e f = sym f
live-too false false q e f = clash (sym e)

revive : (path : List ℕ) (stamp : ℤ) (e : Entry) → is_named e ≡ true → is_live (restore_at path stamp e) ≡ (is_live e || eq_list e.path path)
unfolding is_named is_live deleted_at retyped_entry
revive path stamp e n =
    retype-by (deleted_at path) live_kind stamp (λ x. is_live x ≡ (is_live e || eq_list e.path path)) e
    (λ h. live_back e.kind ∙ sym (or_right (is_live e) (eq_list e.path path) (and-true (is_deleted e) (eq_list e.path path) h).1))
    (λ h. live-too (is_live e) (is_deleted e) (eq_list e.path path) (run-either e n) h)

module _ (s : List ℕ) (v : Volume) (path : List ℕ) (stamp : ℤ) (o : Opens s v) (d : RestorePassed s v path stamp) where
  -- it is there, so deleted entries are kept, and nothing was left over
  keeps : keeps_deleted v.geometry.edition ≡ true
  keeps =
      let f = first_says (deleted_at path) (entries v) d.it d.found in
      all_first _ (deleted_at path) (entries v) d.it (deleted-entries s v o) f (deleted_at-says path d.it f.passes).0

  place : Found (deleted_at path) v.items d.it
  place = first-split (deleted_at path) v.items d.it d.found

  abbrev pre : List Entry
  pre = entries_of place.pre

  abbrev post : List Entry
  post = entries_of place.post

  whole : entries v ≡ pre ++ (d.it ∷ post)
  whole = entries-before s v o keeps (deleted_at path) live_kind (restores path) stamp d.it place

  before : All (λ e. deleted_at path e ≡ false) pre
  before = none_passes (deleted_at path) pre place.before

  others : All (λ e. deleted_at path e ≡ false) post
  others =
      let chosen : only (deleted_at path) (entries v) ≡ d.it ∷ only (deleted_at path) post =
      ap (only (deleted_at path)) whole ∙ only_at (deleted_at path) pre d.it post before place.passes in
      none_passes (deleted_at path) post (not-true _ (sym (only_one (deleted_at path) (entries v) d.it post chosen) ∙ d.one))

  paths : paths_sound (map (restore_at path (stored_stamp stamp)) (entries v)) ≡ true
  unfolding retyped_entry is_live
  paths =
      let back : Entry = retyped_entry (live_kind d.it.kind) (stored_stamp stamp) d.it in
      ap (λ es. paths_sound (map (restore_at path (stored_stamp stamp)) es)) whole
      ∙ ap paths_sound (retype-one (deleted_at path) live_kind (stored_stamp stamp) pre d.it post before place.passes others)
      ∙ paths-restore path pre d.it back post before place.passes others (live_back d.it.kind) (deleted_at-says path d.it place.passes).1
      (rw (← whole) d.free) (rw (← whole) d.nearest) (rw (← whole) o.paths-sound)

  left : Left (restore_of s path stamp).image v.geometry.edition (block_length v.geometry) (map (revived path) (sight s v)) (unusables v)
  unfolding restored revived seen
  left =
      rw (d.image, tidied-kept s v o keeps)
      (retype-left s v o keeps (deleted_at path) live_kind (restores path) stamp d.it place others paths
      (λ k. k.live || eq_list k.path path)
      (all_of _ (λ e n. revive path (stored_stamp stamp) e n) (entries v)))

pub restore-left : AfterRestore
restore-left s v path stamp o z = left s v path stamp (judge-opens s v o) (restore-passed s v path stamp o z)
