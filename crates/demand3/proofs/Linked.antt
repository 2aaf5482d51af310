-- The image and its history agree after every list of calls, given what each accepted writing call leaves.
use Prim.Native.Nat.{ℕ}
use mathlib.Core.Path.{◌≡◌, refl, sym, subst, ◌∙◌}
use mathlib.Core.Bool.{Bool, true, false, not}
use mathlib.Core.List.{List, [], ◌∷◌, map}
use native.Mathlib.Omega.{arith}
use lib.IntN.{ℤ}
use borrow.Author.Tests.{eqb-true}
use Rattle.rules.specs.Lists.{pick, only, sum, Perm, keep, thus}
use Rattle.rules.specs.Editions.{Edition, keeps_deleted}
use Rattle.rules.specs.SuperBlock.{block_length}
use Rattle.rules.specs.Refusals.{accepted, Volume, judge}
use Rattle.rules.specs.Writing.{New, format_of, create_of, delete_of, delete_keep_of, restore_of, reclaim_of}
use Rattle.rules.specs.History.{Call, format, open_volume, find, list, list_all, read, create, delete, delete_keep, restore, reclaim, passed, step, kept_at, marked, marked_in, struck_in, revived, Kept, History, fed, feed, run, told}
use Rattle.rules.specs.History.Laws.{Balanced, balanced-fed}
use Rattle.rules.specs.Regions.{Extent}
use Rattle.after.specs.After.{Left, sight, unusables, AfterFormat, AfterCreate, AfterDelete, AfterDeleteKeep, AfterRestore, AfterReclaim}
use Rattle.laws.proofs.Lists.Perms.{perm-map, perm-only}
use Rattle.demand3.proofs.Calls.{open-image, find-image, list-image, list-all-image, read-image, format-refused, create-refused, delete-refused, delete-keep-refused, restore-refused, reclaim-refused}

-- ---- the unusable regions: an accepted format leaves none, every other call leaves them
unfoldable pub unusable_fed : List Extent → Call → List Extent
unusable_fed bad (format version bytes_per_block reserved name stamp) = []
unusable_fed bad (open_volume out) = bad
unusable_fed bad (find path) = bad
unusable_fed bad (list slot out) = bad
unusable_fed bad (list_all slot out) = bad
unusable_fed bad (read path out) = bad
unusable_fed bad (create new path stamp) = bad
unusable_fed bad (delete path stamp) = bad
unusable_fed bad (delete_keep path stamp) = bad
unusable_fed bad (restore path stamp) = bad
unusable_fed bad (reclaim stamp) = bad

unfoldable pub unusable_feed : List Extent → Call → Bool → List Extent
unusable_feed bad c true = unusable_fed bad c
unusable_feed bad c false = bad

unfoldable pub unusable_told : List ℕ → List Extent → List Call → List Extent
unusable_told s bad [] = bad
unusable_told s bad (c ∷ cs) = unusable_told (step s c).image (unusable_feed bad c (step s c).answered) cs

-- ---- what the image and its history have in common; nothing in it says that we formatted the image
pub record Link (s : List ℕ) (h : History) (bad : List Extent) : Type 0 where
  pub volume : Volume
  pub opens : judge s ≡ accepted volume
  pub edition : volume.geometry.edition ≡ h.edition
  pub blocks : block_length volume.geometry ≡ h.block_bytes
  pub agree : Perm (sight s volume) h.kept
  pub unusable : Perm (unusables volume) bad
  pub sums : Balanced h

-- by whether the call answered 0
fed_by : (s t : List ℕ) (h : History) (bad : List Extent) (c : Call) (answered : Bool)
    → (answered ≡ true → Link t (fed h c) (unusable_fed bad c))
    → (answered ≡ false → t ≡ s)
    → Link s h bad
    → Link t (feed h c answered) (unusable_feed bad c answered)
unfolding feed unusable_feed
fed_by s t h bad c true change stay l = change refl
fed_by s t h bad c false change stay l = rw (stay refl) l

-- a call that reads
read-on : (s t : List ℕ) (h : History) (bad : List Extent) (c : Call) (answered : Bool) → fed h c ≡ h → unusable_fed bad c ≡ bad → t ≡ s → Link s h bad
    → Link t (feed h c answered) (unusable_feed bad c answered)
read-on s t h bad c answered q u e l = fed_by s t h bad c answered (λ _. rw (q, u, e) l) (λ _. e) l

-- an accepted call that writes, format apart: what it left is what the history is fed
left-link : (s t : List ℕ) (h : History) (bad : List Extent) (c : Call) (told : List Kept) (l : Link s h bad)
    → Left t l.volume.geometry.edition (block_length l.volume.geometry) told (unusables l.volume)
    → (fed h c).edition ≡ h.edition → (fed h c).block_bytes ≡ h.block_bytes → Perm told (fed h c).kept → Link t (fed h c) bad
left-link s t h bad c told l n ed b p = record {
  volume = n.volume;
  opens = n.opens;
  edition = n.edition ∙ l.edition ∙ sym ed;
  blocks = n.blocks ∙ l.blocks ∙ sym b;
  agree = thus n.agree p;
  unusable = thus n.unusable l.unusable;
  sums = balanced-fed h c l.sums;
}

-- a delete that keeps marks or strikes, in the image as in the history
abbrev deleted_in : Bool → List ℕ → List Kept → List Kept
deleted_in keeps path ks = pick keeps (map (marked path) ks) (only (λ k. not (kept_at path k)) ks)

told-deleted : (h : History) (path : List ℕ) (ks : List Kept) → Perm ks h.kept → (keeps : Bool)
    → let x : History = pick keeps (marked_in h path) (struck_in h path) in
    (x.edition ≡ h.edition) × (x.block_bytes ≡ h.block_bytes) × Perm (deleted_in keeps path ks) x.kept
unfolding pick marked_in struck_in
told-deleted h path ks p true = (refl, refl, perm-map (marked path) p)
told-deleted h path ks p false = (refl, refl, perm-only (λ k. not (kept_at path k)) p)

module _ (format-left : AfterFormat) (create-left : AfterCreate) (delete-left : AfterDelete) (delete-keep-left : AfterDeleteKeep) (restore-left : AfterRestore) (reclaim-left : AfterReclaim) where
  -- from any image and any history
  pub formatted : (s : List ℕ) (h : History) (version bytes_per_block reserved : ℕ) (name : List ℕ) (stamp : ℤ)
      → (format_of s version bytes_per_block reserved name stamp).refusal ≡ 0
      → Link (format_of s version bytes_per_block reserved name stamp).image (fed h (format version bytes_per_block reserved name stamp)) []
  unfolding fed sum
  formatted s h version bytes_per_block reserved name stamp e =
      let n = format-left s version bytes_per_block reserved name stamp e in
      record { volume = n.volume; opens = n.opens; edition = n.edition; blocks = n.blocks; agree = n.agree; unusable = n.unusable; sums = omega arith }

  created : (s : List ℕ) (h : History) (bad : List Extent) (new : New) (path : List ℕ) (stamp : ℤ) → Link s h bad
      → (create_of s new path stamp).refusal ≡ 0
      → Link (create_of s new path stamp).image (fed h (create new path stamp)) bad
  unfolding fed
  created s h bad new path stamp l e =
      left-link s _ h bad (create new path stamp) _ l (create-left s l.volume new path stamp l.opens e) refl refl (rw l.blocks (keep l.agree))

  deleted : (s : List ℕ) (h : History) (bad : List Extent) (path : List ℕ) (stamp : ℤ) → Link s h bad
      → (delete_of s path stamp).refusal ≡ 0
      → Link (delete_of s path stamp).image (fed h (delete path stamp)) bad
  unfolding fed struck_in
  deleted s h bad path stamp l e =
      left-link s _ h bad (delete path stamp) _ l (delete-left s l.volume path stamp l.opens e) refl refl (perm-only (λ k. not (kept_at path k)) l.agree)

  deleted_keeping : (s : List ℕ) (h : History) (bad : List Extent) (path : List ℕ) (stamp : ℤ) → Link s h bad
      → (delete_keep_of s path stamp).refusal ≡ 0
      → Link (delete_keep_of s path stamp).image (fed h (delete_keep path stamp)) bad
  unfolding fed
  deleted_keeping s h bad path stamp l e =
      let k = told-deleted h path (sight s l.volume) l.agree (keeps_deleted h.edition) in
      left-link s _ h bad (delete_keep path stamp) _ l (delete-keep-left s l.volume path stamp l.opens e) k.0 k.1
      (subst (λ (ed : Edition). Perm (deleted_in (keeps_deleted ed) path (sight s l.volume)) (pick (keeps_deleted h.edition) (marked_in h path) (struck_in h path)).kept)
      (sym l.edition) k.2)

  restored : (s : List ℕ) (h : History) (bad : List Extent) (path : List ℕ) (stamp : ℤ) → Link s h bad
      → (restore_of s path stamp).refusal ≡ 0
      → Link (restore_of s path stamp).image (fed h (restore path stamp)) bad
  unfolding fed
  restored s h bad path stamp l e =
      left-link s _ h bad (restore path stamp) _ l (restore-left s l.volume path stamp l.opens e) refl refl (perm-map (revived path) l.agree)

  reclaimed : (s : List ℕ) (h : History) (bad : List Extent) (stamp : ℤ) → Link s h bad
      → (reclaim_of s stamp).refusal ≡ 0
      → Link (reclaim_of s stamp).image (fed h (reclaim stamp)) bad
  unfolding fed
  reclaimed s h bad stamp l e =
      left-link s _ h bad (reclaim stamp) _ l (reclaim-left s l.volume stamp l.opens e) refl refl (perm-only (λ k. k.live) l.agree)

  -- ---- a call, and a list of calls
  stepped : (s : List ℕ) (h : History) (bad : List Extent) (c : Call) → Link s h bad
      → Link (step s c).image (feed h c (step s c).answered) (unusable_feed bad c (step s c).answered)
  unfolding step passed fed unusable_fed
  stepped s h bad (format version bytes_per_block reserved name stamp) l =
      fed_by s _ h bad (format version bytes_per_block reserved name stamp) _
      (λ a. formatted s h version bytes_per_block reserved name stamp (eqb-true _ 0 a))
      (format-refused s version bytes_per_block reserved name stamp)
      l
  stepped s h bad (open_volume out) l = read-on s _ h bad (open_volume out) _ refl refl (open-image s out) l
  stepped s h bad (find path) l = read-on s _ h bad (find path) _ refl refl (find-image s path) l
  stepped s h bad (list slot out) l = read-on s _ h bad (list slot out) _ refl refl (list-image s slot out) l
  stepped s h bad (list_all slot out) l = read-on s _ h bad (list_all slot out) _ refl refl (list-all-image s slot out) l
  stepped s h bad (read path out) l = read-on s _ h bad (read path out) _ refl refl (read-image s path out) l
  stepped s h bad (create new path stamp) l =
      fed_by s _ h bad (create new path stamp) _ (λ a. created s h bad new path stamp l (eqb-true _ 0 a)) (create-refused s new path stamp) l
  stepped s h bad (delete path stamp) l =
      fed_by s _ h bad (delete path stamp) _ (λ a. deleted s h bad path stamp l (eqb-true _ 0 a)) (delete-refused s path stamp) l
  stepped s h bad (delete_keep path stamp) l =
      fed_by s _ h bad (delete_keep path stamp) _ (λ a. deleted_keeping s h bad path stamp l (eqb-true _ 0 a)) (delete-keep-refused s path stamp) l
  stepped s h bad (restore path stamp) l =
      fed_by s _ h bad (restore path stamp) _ (λ a. restored s h bad path stamp l (eqb-true _ 0 a)) (restore-refused s path stamp) l
  stepped s h bad (reclaim stamp) l =
      fed_by s _ h bad (reclaim stamp) _ (λ a. reclaimed s h bad stamp l (eqb-true _ 0 a)) (reclaim-refused s stamp) l

  pub linked : (s : List ℕ) (h : History) (bad : List Extent) (cs : List Call) → Link s h bad → Link (run s cs) (told s h cs) (unusable_told s bad cs)
  unfolding run told unusable_told
  linked s h bad [] l = l
  linked s h bad (c ∷ cs) l = linked (step s c).image (feed h c (step s c).answered) (unusable_feed bad c (step s c).answered) cs (stepped s h bad c l)
