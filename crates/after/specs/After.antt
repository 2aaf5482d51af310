-- What an accepted writing call leaves: the image opens again, and what the history sees of its entries has changed as told.
use Rattle.std.specs.Prelude.{ℕ, ◌≡◌, Bool, true, not, List, [], ◌∷◌, map, ℤ, eqb}
use Rattle.std.proofs.Math.Option.{some}
use Rattle.rules.specs.Lists.{pick, any, only, Perm}
use Rattle.rules.specs.Fields.{Bytes}
use Rattle.rules.specs.Editions.{Edition, edition_named, keeps_deleted}
use Rattle.rules.specs.SuperBlock.{Geometry, block_length}
use Rattle.rules.specs.Index.{Entry, run_type, type_unusable}
use Rattle.rules.specs.Regions.{Extent, extent_of, blocks_of}
use Rattle.rules.specs.Names.{path_good}
use Rattle.rules.specs.Paths.{is_live, deleted_at, lookup}
use Rattle.rules.specs.Refusals.{accepted, Volume, entries, judge}
use Rattle.rules.specs.Reading.{file_bytes, find_of}
use Rattle.rules.specs.Writing.{New, format_of, create_of, live_kind, delete_of, delete_keep_of, restore_of, reclaim_of}
use Rattle.rules.specs.Writing.Laws.{refused_write, wrote}
use Rattle.rules.specs.History.{Kept, kept_of, kept_at, marked, revived}

-- files and directories, live or deleted; an unusable entry is none
unfoldable pub is_named : Entry → Bool
is_named e = run_type e.kind

-- what the history sees of an entry
unfoldable pub seen : List ℕ → Geometry → Entry → Kept
seen s g e = record {
  path = e.path;
  kind = live_kind e.kind;
  bytes = file_bytes s g e;
  blocks = blocks_of e;
  live = is_live e;
}

-- all that it sees of a volume
unfoldable pub sight : List ℕ → Volume → List Kept
sight s v = map (seen s v.geometry) (only is_named (entries v))

unfoldable pub is_unusable : Entry → Bool
is_unusable e = eqb e.kind type_unusable

-- the unusable regions of a volume
unfoldable pub unusables : Volume → List Extent
unusables v = map extent_of (only is_unusable (entries v))

-- the image t opens, its edition is `ed` and its blocks are of `block` bytes, what is seen of it is `told` and its unusable regions are `bad`, in some order
pub record Left (t : List ℕ) (ed : Edition) (block : ℕ) (told : List Kept) (bad : List Extent) : Type 0 where
  pub volume : Volume
  pub opens : judge t ≡ accepted volume
  pub edition : volume.geometry.edition ≡ ed
  pub blocks : block_length volume.geometry ≡ block
  pub agree : Perm (sight t volume) told
  pub unusable : Perm (unusables volume) bad

abbrev pub AfterFormat : Type 0
AfterFormat =
    (s : List ℕ) (version bytes_per_block reserved : ℕ) (name : List ℕ) (stamp : ℤ)
    → (format_of s version bytes_per_block reserved name stamp).refusal ≡ 0
    → Left (format_of s version bytes_per_block reserved name stamp).image (edition_named version) bytes_per_block [] []

abbrev pub AfterCreate : Type 0
AfterCreate =
    (s : List ℕ) (v : Volume) (new : New) (path : List ℕ) (stamp : ℤ)
    → judge s ≡ accepted v
    → (create_of s new path stamp).refusal ≡ 0
    → Left (create_of s new path stamp).image v.geometry.edition (block_length v.geometry) (kept_of (block_length v.geometry) new path ∷ sight s v) (unusables v)

abbrev pub AfterDelete : Type 0
AfterDelete =
    (s : List ℕ) (v : Volume) (path : List ℕ) (stamp : ℤ)
    → judge s ≡ accepted v
    → (delete_of s path stamp).refusal ≡ 0
    → Left (delete_of s path stamp).image v.geometry.edition (block_length v.geometry) (only (λ k. not (kept_at path k)) (sight s v)) (unusables v)

abbrev pub AfterDeleteKeep : Type 0
AfterDeleteKeep =
    (s : List ℕ) (v : Volume) (path : List ℕ) (stamp : ℤ)
    → judge s ≡ accepted v
    → (delete_keep_of s path stamp).refusal ≡ 0
    → Left (delete_keep_of s path stamp).image v.geometry.edition (block_length v.geometry)
    (pick (keeps_deleted v.geometry.edition) (map (marked path) (sight s v)) (only (λ k. not (kept_at path k)) (sight s v)))
    (unusables v)

abbrev pub AfterRestore : Type 0
AfterRestore =
    (s : List ℕ) (v : Volume) (path : List ℕ) (stamp : ℤ)
    → judge s ≡ accepted v
    → (restore_of s path stamp).refusal ≡ 0
    → Left (restore_of s path stamp).image v.geometry.edition (block_length v.geometry) (map (revived path) (sight s v)) (unusables v)

abbrev pub AfterReclaim : Type 0
AfterReclaim =
    (s : List ℕ) (v : Volume) (stamp : ℤ)
    → judge s ≡ accepted v
    → (reclaim_of s stamp).refusal ≡ 0
    → Left (reclaim_of s stamp).image v.geometry.edition (block_length v.geometry) (only (λ k. k.live) (sight s v)) (unusables v)

-- ---- two calls, one after the other
-- a delete of either kind, then a find of the path: 11
abbrev pub DeletedUnfound : Type 0
DeletedUnfound =
    (s : List ℕ) (v : Volume) (path : List ℕ) (stamp : ℤ)
    → judge s ≡ accepted v
    → ((delete_of s path stamp).refusal ≡ 0 → (find_of (delete_of s path stamp).image path).refusal ≡ 11)
    × ((delete_keep_of s path stamp).refusal ≡ 0 → (find_of (delete_keep_of s path stamp).image path).refusal ≡ 11)

-- a delete that keeps, then a restore with the stamp that the entry had: the image is what it was, byte for byte; or, where another entry of the path
-- had been deleted before, 19. Where deleted entries are not kept, 11
abbrev pub DeletedRestored : Type 0
DeletedRestored =
    (s : List ℕ) (v : Volume) (path : List ℕ) (e : Entry) (stamp : ℤ)
    → Bytes s
    → judge s ≡ accepted v
    → lookup path (entries v) ≡ some e
    → (delete_keep_of s path stamp).refusal ≡ 0
    → let t : List ℕ = (delete_keep_of s path stamp).image in
    restore_of t path e.stamp
    ≡ pick (keeps_deleted v.geometry.edition) (pick (any (deleted_at path) (entries v)) (refused_write t 19) (wrote s)) (refused_write t 11)

-- a reclaim, then a restore of any allowed path: 11
abbrev pub ReclaimedRestored : Type 0
ReclaimedRestored =
    (s : List ℕ) (v : Volume) (path : List ℕ) (first second : ℤ)
    → judge s ≡ accepted v
    → (reclaim_of s first).refusal ≡ 0
    → path_good path ≡ true
    → let t : List ℕ = (reclaim_of s first).image in
    restore_of t path second ≡ refused_write t 11
