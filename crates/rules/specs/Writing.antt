-- 01, "The calls": format, create, delete as K7 has it, restore (which K2 adds) and reclaim. They give no number but the refusal.
use Rattle.std.specs.Prelude.{ℕ, zero, suc, ◌+◌, ◌-◌, ◌*◌, ◌/◌, ◌≡◌, Bool, true, ◌&&◌, not, List, [], ◌∷◌, ◌++◌, length, replicate, eqb, leb, ℤ}
use Rattle.std.proofs.Math.Option.{Option, none, some}
use Rattle.rules.specs.Lists.{pick, only, first, first_if, part, padded, largest}
use Rattle.rules.specs.Fields.{splice}
use Rattle.rules.specs.Editions.{Edition, version_of, version_named, edition_named, super_block_at, keeps_deleted, before_directories}
use Rattle.rules.specs.SuperBlock.{Geometry, block_bytes, block_length, ceiling_block, data_end, most_index_bytes, field_of, geometry_good, length_good, grow_index, extend_data, trim_data, restamp, super_block_bytes, put_sizes, writable}
use Rattle.rules.specs.Names.{path_good, new_path_good, volume_name_good, leading, is_below}
use Rattle.rules.specs.Index.{Entry, Item, unused, stale, entry, fault, file_type, type_file, type_directory, type_deleted_file, type_deleted_directory, slot_bytes, slot_at, marker_bytes, identifier_bytes, unused_bytes, continuing, run_bytes, retyped}
use Rattle.rules.specs.Regions.{blocks_of, lowest_free, blocks_needed}
use Rattle.rules.specs.Paths.{live_at, is_deleted, deleted_at, lookup, directory_live, any_below}
use Rattle.rules.specs.Lists.{is_some}
use Rattle.rules.specs.Refusals.{Verdict, accepted, need, need_found, Volume, entries, judge}
use Rattle.rules.specs.Outcome.{Outcome, done, conclude, on_volume}
pub mod Laws

abbrev pub Written : Type 0
Written = Outcome (Unit {0})

-- what is left over becomes unused slots
unfoldable pub tidied : List ℕ → Geometry → List Item → List ℕ
tidied s g [] = s
tidied s g (unused k ∷ is) = tidied s g is
tidied s g (stale k n ∷ is) = tidied (splice s (slot_at s g k) (unused_bytes g.edition n)) g is
tidied s g (entry e ∷ is) = tidied s g is
tidied s g (fault k ∷ is) = tidied s g is

-- 9, and then the call on the image that is tidied first: a refusal leaves the image as it was
abbrev pub on_writable : List ℕ → (List ℕ → Volume → Verdict Written) → Written
on_writable s call = on_volume tt s [] (λ v. need (writable v.geometry) 9 (call (tidied s v.geometry v.items) v))

-- ---- format
-- the geometry that results; b follows from the bytes per block
unfoldable pub fresh_geometry : Edition → ℕ → ℕ → ℕ → ℤ → Geometry
fresh_geometry ed n b reserved stamp = record {
  edition = ed;
  stamp = stamp;
  data_blocks = 0;
  index_bytes = 128;
  version = version_of ed;
  total = n / block_bytes b;
  reserved = reserved;
  block_field = b;
}

-- the super-block and the last 128 bytes: marker and identifier
unfoldable pub formatted : List ℕ → Geometry → List ℕ → List ℕ
formatted s g name =
    splice
    (splice s (super_block_at g.edition) (super_block_bytes g))
    (length s - 128)
    (marker_bytes g.edition ++ identifier_bytes g.edition g.stamp name)

unfoldable pub format_of : List ℕ → ℕ → ℕ → ℕ → List ℕ → ℤ → Written
format_of s version bytes_per_block reserved name stamp =
    conclude tt s []
    (need (length_good (length s)) 1
    (need (version_named version) 5
    (need_found (field_of bytes_per_block) 5 (λ b.
    let g : Geometry = fresh_geometry (edition_named version) (length s) b reserved stamp in
    need (geometry_good (length s) g) 5
    (need (volume_name_good name) 10
    (accepted (done tt (formatted s g name) [])))))))

-- ---- create
pub data New : Type 0 where
  new_file : List ℕ → New
  new_directory : New

unfoldable pub kind_of : New → ℕ
kind_of (new_file bytes) = type_file
kind_of new_directory = type_directory

unfoldable pub bytes_of : New → List ℕ
bytes_of (new_file bytes) = bytes
bytes_of new_directory = []

-- its directory, if any, is live, the longest of its leading paths: of a and a/b it is a/b
unfoldable pub nearest_live : List Entry → List (List ℕ) → Bool
nearest_live es [] = true
nearest_live es (p ∷ []) = directory_live es p
nearest_live es (p ∷ q ∷ ps) = nearest_live es (q ∷ ps)

-- how many unused slots stand first
unfoldable pub unused_first : List Item → ℕ
unused_first [] = 0
unused_first (unused k ∷ is) = 1 + unused_first is
unused_first (stale k n ∷ is) = n + unused_first is
unused_first (entry e ∷ is) = 0
unused_first (fault k ∷ is) = 0

-- the first n slots are unused
unfoldable pub starts_unused : ℕ → List Item → Bool
starts_unused n is = leb n (unused_first is)

unfoldable pub item_slot : Item → ℕ
item_slot (unused k) = k
item_slot (stale k n) = k
item_slot (entry e) = e.slot
item_slot (fault k) = k

-- the lowest slot of n consecutive unused ones
unfoldable pub lowest_unused : ℕ → List Item → Option ℕ
lowest_unused n [] = none
lowest_unused n (i ∷ is) = first_if (starts_unused n (i ∷ is)) (item_slot i) (lowest_unused n is)

-- the slots of the run, and the blocks of the bytes
abbrev pub new_slots : Edition → New → List ℕ → ℕ
new_slots ed new path = 1 + continuing ed (kind_of new) (length path)

abbrev pub new_blocks : Geometry → New → ℕ
new_blocks g new = blocks_needed (block_length g) (length (bytes_of new))

-- a place for the run: its first slot, and the geometry after any growth of the index
pub record Place : Type 0 where
  pub slot : ℕ
  pub geometry : Geometry

-- an index may grow to 262,144 bytes, and down to the data area's end
unfoldable pub may_grow : ℕ → Geometry → Bool
may_grow n grown = leb grown.index_bytes most_index_bytes && leb (data_end grown) (ceiling_block n grown)

-- the run is the first in an index that has grown by it
unfoldable pub grown_place : ℕ → Geometry → Option Place
grown_place n grown = pick (may_grow n grown) (some (record { slot = 1; geometry = grown })) none

-- the index keeps its size where a slot was found for the run, else it grows
unfoldable pub place_from : ℕ → Geometry → ℕ → Option ℕ → Option Place
place_from n kept slots (some k) = some (record { slot = k; geometry = kept })
place_from n kept slots none = grown_place n (grow_index kept (slot_bytes * slots))

-- a directory that the path lies below
unfoldable pub is_above : List ℕ → Entry → Bool
is_above path e = eqb e.kind type_directory && is_below e.path path

-- what stands before the first entry that passes
unfoldable pub items_before : (Entry → Bool) → List Item → List Item
items_before p [] = []
items_before p (unused k ∷ is) = unused k ∷ items_before p is
items_before p (stale k n ∷ is) = stale k n ∷ items_before p is
items_before p (entry e ∷ is) = pick (p e) [] (entry e ∷ items_before p is)
items_before p (fault k ∷ is) = fault k ∷ items_before p is

-- where a new entry of the path may go
unfoldable pub places_for : Edition → List ℕ → List Item → List Item
places_for ed path is = pick (before_directories ed) (items_before (is_above path) is) is

unfoldable pub place_run : ℕ → Volume → List ℕ → ℕ → Option Place
place_run n v path slots = place_from n v.geometry slots (lowest_unused slots (places_for v.geometry.edition path v.items))

-- the start of a file's k blocks: 0 where it needs none, else the lowest free run below the ceiling block after any growth
unfoldable pub place_file : ℕ → Geometry → List Entry → ℕ → Option ℕ
place_file n g es zero = some 0
place_file n g es (suc k) = lowest_free es (suc k) g.reserved (ceiling_block n g)

-- where all of it goes
pub record Site : Type 0 where
  pub old : Geometry  -- before the call
  pub new : Geometry  -- after it
  pub slot : ℕ  -- the run's first slot, in the new index
  pub slots : ℕ  -- how many it has
  pub start : ℕ  -- the file's first block
  pub end : ℕ  -- the block past its last

-- the run at its place, the blocks from `start` on. The data area grows only if the blocks pass its end.
abbrev pub site_of : Volume → New → List ℕ → ℤ → Place → ℕ → Site
site_of v new path stamp run start =
    let end : ℕ = start + new_blocks v.geometry new in
    record {
      old = v.geometry;
      new = restamp v.geometry (extend_data run.geometry end) stamp;
      slot = run.slot;
      slots = new_slots v.geometry.edition new path;
      start = start;
      end = end;
    }

-- the new entry
unfoldable pub new_entry : Site → New → List ℕ → ℤ → Entry
new_entry site new path stamp = record {
  kind = kind_of new;
  slot = site.slot;
  slots = site.slots;
  stamp = stamp;
  start = site.start;
  end = site.end;
  length = length (bytes_of new);
  path = path;
}

-- the start marker moves with the index's start
unfoldable pub put_marker : List ℕ → Geometry → Geometry → List ℕ
put_marker s old new = pick (eqb old.index_bytes new.index_bytes) s (splice s (slot_at s new 0) (marker_bytes new.edition))

-- sizes, marker, run, and the blocks: the bytes, and zeros to the end of the last block
unfoldable pub created : List ℕ → Site → New → List ℕ → ℤ → List ℕ
created s site new path stamp =
    let marked : List ℕ = put_marker (put_sizes s site.new) site.old site.new in
    let indexed : List ℕ = splice marked (slot_at s site.new site.slot) (run_bytes site.new.edition (new_entry site new path stamp)) in
    splice indexed (site.start * block_length site.new) (padded (bytes_of new) ((site.end - site.start) * block_length site.new))

unfoldable pub create_of : List ℕ → New → List ℕ → ℤ → Written
create_of s new path stamp =
    on_writable s (λ t v.
    need (new_path_good path) 10
    (need (not (is_some (lookup path (entries v)))) 12
    (need (nearest_live (entries v) (leading path)) 13
    (need_found (place_run (length s) v path (new_slots v.geometry.edition new path)) 15 (λ run.
    need_found (place_file (length s) run.geometry (entries v) (new_blocks v.geometry new)) 16 (λ start.
    accepted (done tt (created t (site_of v new path stamp run start) new path stamp) [])))))))

-- ---- an entry goes: its run, its blocks, and the data area that is left
-- its run becomes unused slots
abbrev pub run_cleared : List ℕ → Geometry → Entry → List ℕ
run_cleared s g e = splice s (slot_at s g e.slot) (unused_bytes g.edition e.slots)

-- every block of its region becomes zeros; a directory and an empty file have none
unfoldable pub region_cleared : List ℕ → Geometry → Entry → List ℕ
region_cleared s g e = splice s (e.start * block_length g) (replicate (blocks_of e * block_length g) 0)

-- the least end of a data area that covers the regions of these entries
unfoldable pub least_end : List Entry → ℕ
least_end es = largest (λ e. e.end) es

-- the geometry once only these entries are left: the data area is trimmed to their regions, and the stamp is the call's if that changed its size
abbrev pub trimmed_to : List Entry → Geometry → ℤ → Geometry
trimmed_to es g stamp = restamp g (trim_data g (least_end es)) stamp

-- ---- delete, two calls as K7 has them, which refuse alike
-- 10, 11 and 14, and then what the call writes: of the tidied image, the volume and the path's live entry
unfoldable pub on_deletable : List ℕ → List ℕ → (List ℕ → Volume → Entry → List ℕ) → Written
on_deletable s path write =
    on_writable s (λ t v.
    need (path_good path) 10
    (need_found (lookup path (entries v)) 11 (λ e.
    need (not (any_below path (entries v))) 14
    (accepted (done tt (write t v e) [])))))

-- all entries but the path's live one
abbrev pub without : List ℕ → List Entry → List Entry
without path es = only (λ e. not (live_at path e)) es

-- ---- the plain one wipes: zeros in the whole region, the data area trimmed to the regions left, unused slots for the run
unfoldable pub wiped : List ℕ → ℤ → List ℕ → Volume → Entry → List ℕ
wiped path stamp s v e =
    let g : Geometry = trimmed_to (without path (entries v)) v.geometry stamp in
    run_cleared (put_sizes (region_cleared s v.geometry e) g) g e

unfoldable pub delete_of : List ℕ → List ℕ → ℤ → Written
delete_of s path stamp = on_deletable s path (wiped path stamp)

-- ---- the other keeps: the type and the stamp of its entry, or unused slots where deleted entries are not kept
unfoldable pub deleted_kind : ℕ → ℕ
deleted_kind t = pick (file_type t) type_deleted_file type_deleted_directory

unfoldable pub deleted : ℤ → List ℕ → Volume → Entry → List ℕ
deleted stamp s v e =
    pick (keeps_deleted v.geometry.edition)
    (retyped v.geometry.edition s (slot_at s v.geometry e.slot) (deleted_kind e.kind) stamp)
    (run_cleared s v.geometry e)

unfoldable pub delete_keep_of : List ℕ → List ℕ → ℤ → Written
delete_keep_of s path stamp = on_deletable s path (deleted stamp)

-- so that both give one number on every image and path (`deletes-alike`)
abbrev pub DeletesAlike : Type 0
DeletesAlike = (s path : List ℕ) (stamp other : ℤ) → (delete_of s path stamp).refusal ≡ (delete_keep_of s path other).refusal

-- ---- restore, request K2: the type and the stamp of the path's one deleted entry
-- a deleted file is a file again, a deleted directory a directory
unfoldable pub live_kind : ℕ → ℕ
live_kind t = pick (file_type t) type_file type_directory

-- only where deleted entries are kept, since no sum is made good here
unfoldable pub restored : Edition → List ℕ → ℕ → Entry → ℤ → List ℕ
restored ed s at e stamp = retyped ed s at (live_kind e.kind) stamp

-- 11 where no deleted entry has the path, also where it is live; 19 where two or more have it
unfoldable pub restore_of : List ℕ → List ℕ → ℤ → Written
restore_of s path stamp =
    on_writable s (λ t v.
    need (path_good path) 10
    (need_found (first (deleted_at path) (entries v)) 11 (λ e.
    need (not (is_some (lookup path (entries v)))) 12
    (need (nearest_live (entries v) (leading path)) 13
    (need (leb (length (only (deleted_at path) (entries v))) 1) 19
    (accepted (done tt (restored v.geometry.edition t (slot_at t v.geometry e.slot) e stamp) [])))))))

-- ---- reclaim: deleted runs become unused slots, the data area its least size
-- the entries that are left
abbrev pub undeleted : List Entry → List Entry
undeleted es = only (λ e. not (is_deleted e)) es

-- the runs of the entries that pass become unused slots
unfoldable pub cleared : (Entry → Bool) → List ℕ → Geometry → List Entry → List ℕ
cleared p s g [] = s
cleared p s g (e ∷ es) = cleared p (pick (p e) (run_cleared s g e) s) g es

unfoldable pub reclaim_of : List ℕ → ℤ → Written
reclaim_of s stamp =
    on_writable s (λ t v.
    let g : Geometry = trimmed_to (undeleted (entries v)) v.geometry stamp in
    accepted (done tt (cleared is_deleted (put_sizes t g) g (entries v)) []))

-- ---- THE PROMISE OF A PLAIN DELETE: where the file's bytes were are zeros, and where its name was are unused slots, of which all is zero but the type and
-- the sum
pub record Wiped (t : List ℕ) (g : Geometry) (e : Entry) : Type 0 where
  pub region : part t (e.start * block_length g) (blocks_of e * block_length g) ≡ replicate (blocks_of e * block_length g) 0
  pub run : part t (slot_at t g e.slot) (slot_bytes * e.slots) ≡ unused_bytes g.edition e.slots

-- of the image that an accepted one leaves, and the entry that the path had
abbrev pub DeleteWipes : Type 0
DeleteWipes =
    (s : List ℕ) (v : Volume) (path : List ℕ) (e : Entry) (stamp : ℤ)
    → judge s ≡ accepted v
    → lookup path (entries v) ≡ some e
    → (delete_of s path stamp).refusal ≡ 0
    → Wiped (delete_of s path stamp).image v.geometry e
