-- 01, "Index area": slots, kinds, entries, and the walk that takes the index apart.
use Rattle.std.specs.Prelude.{ℕ, zero, suc, ◌+◌, ◌-◌, ◌*◌, ◌/◌, ◌≤◌, ◌≡◌, Bool, true, false, ◌&&◌, ◌||◌, not, List, [], ◌∷◌, ◌++◌, length, take, drop, eqb, leb, ℤ, pos}
use Rattle.rules.specs.Lists.{pick, all, padded, part}
use Rattle.rules.specs.Fields.{byte_at, le, le_bytes, splice, stamp_in, stamp_bytes, up_to_zero, has_zero}
use Rattle.rules.specs.Editions.{Edition, sum_length, sum_good, sum_of, past_end, stored_end, keeps_deleted, takes_stray}
use Rattle.rules.specs.SuperBlock.{Geometry}
use Rattle.rules.specs.Names.{path_good, volume_text_good}
pub mod Walk
pub mod Frame
pub mod Items
pub mod Laws

-- ---- the types that a slot's first byte says
abbrev pub type_identifier : ℕ
type_identifier = 0x01

abbrev pub type_marker : ℕ
type_marker = 0x02

abbrev pub type_unused : ℕ
type_unused = 0x10

abbrev pub type_directory : ℕ
type_directory = 0x11

abbrev pub type_file : ℕ
type_file = 0x12

abbrev pub type_unusable : ℕ
type_unusable = 0x18

abbrev pub type_deleted_directory : ℕ
type_deleted_directory = 0x19

abbrev pub type_deleted_file : ℕ
type_deleted_file = 0x1A

-- a live or deleted file
unfoldable pub file_type : ℕ → Bool
file_type t = eqb t type_file || eqb t type_deleted_file

unfoldable pub directory_type : ℕ → Bool
directory_type t = eqb t type_directory || eqb t type_deleted_directory

-- a type that starts a run: an entry with the slots that continue its name
unfoldable pub run_type : ℕ → Bool
run_type t = directory_type t || file_type t

unfoldable pub live_type : ℕ → Bool
live_type t = eqb t type_directory || eqb t type_file

unfoldable pub deleted_type : ℕ → Bool
deleted_type t = eqb t type_deleted_directory || eqb t type_deleted_file

-- a first byte that is a fault where it starts no entry: 0x20 and more, which 1.10 has taken as left over before this is asked,
-- and the two types that stand only at the ends
unfoldable pub stray_type : ℕ → Bool
stray_type t = leb 0x20 t || eqb t type_identifier || eqb t type_marker

-- a slot that is left over: a deleted run, where the edition keeps none, or a stray slot, where it takes them as unused
unfoldable pub stale_type : Edition → ℕ → Bool
stale_type ed t = (not (keeps_deleted ed) && deleted_type t) || (takes_stray ed && leb 0x20 t)

-- ---- where an entry's fields are: a directory's and a file's, behind the type and the sum
abbrev pub slot_bytes : ℕ
slot_bytes = 64

abbrev pub count_at : Edition → ℕ
count_at ed = sum_length ed + 1

abbrev pub stamp_at : Edition → ℕ
stamp_at ed = sum_length ed + 2

abbrev pub start_at : Edition → ℕ
start_at ed = sum_length ed + 10

abbrev pub end_at : Edition → ℕ
end_at ed = sum_length ed + 18

abbrev pub length_at : Edition → ℕ
length_at ed = sum_length ed + 26

-- a directory's name starts at 10 (54 bytes of it in the first slot), a file's at 34 (30 bytes), in 1.10 one byte later (53 and 29)
unfoldable pub name_at : Edition → ℕ → ℕ
name_at ed t = sum_length ed + pick (file_type t) 34 10

-- an unusable entry's region is at the same places in both editions
abbrev pub unusable_start_at : ℕ
unusable_start_at = 10

abbrev pub unusable_end_at : ℕ
unusable_end_at = 18

-- ---- an entry
pub record Entry : Type 0 where
  pub kind : ℕ  -- the type byte
  pub slot : ℕ  -- its first slot
  pub slots : ℕ  -- how many slots its run has
  pub stamp : ℤ
  pub start : ℕ  -- first block of its region
  pub end : ℕ  -- the block past its region
  pub length : ℕ  -- bytes
  pub path : List ℕ

-- the slots of the run at the start of `a`: the first and the c that continue its name
unfoldable pub run_slots : Edition → List ℕ → ℕ
run_slots ed a = 1 + byte_at a (count_at ed)

-- all bytes of that run
unfoldable pub run_field : Edition → List ℕ → List ℕ
run_field ed a = take (slot_bytes * run_slots ed a) a

-- the name's field and continuing slots, in one piece
unfoldable pub name_field : Edition → List ℕ → List ℕ
name_field ed a = drop (name_at ed (byte_at a 0)) (run_field ed a)

-- a field of a file; a directory has 0
unfoldable pub file_field : List ℕ → ℕ → ℕ
file_field a at = pick (file_type (byte_at a 0)) (le 8 a at) 0

-- the entry of the run at slot k, where `a` starts
unfoldable pub entry_at : Edition → ℕ → List ℕ → Entry
entry_at ed k a = record {
  kind = byte_at a 0;
  slot = k;
  slots = run_slots ed a;
  stamp = stamp_in a (stamp_at ed);
  start = file_field a (start_at ed);
  end = past_end ed (file_field a (end_at ed));
  length = file_field a (length_at ed);
  path = up_to_zero (name_field ed a);
}

-- an unusable entry has a region, and no name, stamp or length
unfoldable pub unusable_at : Edition → ℕ → List ℕ → Entry
unusable_at ed k a = record {
  kind = type_unusable;
  slot = k;
  slots = 1;
  stamp = pos 0;
  start = le 8 a unusable_start_at;
  end = past_end ed (le 8 a unusable_end_at);
  length = 0;
  path = [];
}

-- ---- the walk
-- what stands at a slot: an unused slot, so many that are left over and unused, an entry, or a fault that refusal 6 is for
pub data Item : Type 0 where
  unused : ℕ → Item
  stale : ℕ → ℕ → Item  -- the first, and how many
  entry : Entry → Item
  fault : ℕ → Item

-- a name that has its zero and is a path
unfoldable pub name_good : List ℕ → Bool
name_good field = has_zero field && path_good (up_to_zero field)

-- a run ends before the volume identifier, its slots among the `left` ones, and its sum is right
unfoldable pub run_whole : Edition → ℕ → List ℕ → Bool
run_whole ed left a = leb (run_slots ed a) left && sum_good ed (run_field ed a)

unfoldable pub run_at : Edition → ℕ → ℕ → List ℕ → Item
run_at ed left k a = pick (run_whole ed left a && name_good (name_field ed a)) (entry (entry_at ed k a)) (fault k)

-- an unusable entry's sum is right
unfoldable pub unusable_item : Edition → ℕ → List ℕ → Item
unusable_item ed k a = pick (sum_good ed (take slot_bytes a)) (entry (unusable_at ed k a)) (fault k)

-- of what is left over, a deleted run that is whole has all its slots; else it is one slot
unfoldable pub stale_slots : Edition → ℕ → List ℕ → ℕ
stale_slots ed left a = pick (deleted_type (byte_at a 0) && run_whole ed left a) (run_slots ed a) 1

unfoldable pub item_at : Edition → ℕ → ℕ → List ℕ → Item
item_at ed left k a =
    pick (stale_type ed (byte_at a 0)) (stale k (stale_slots ed left a))
    (pick (run_type (byte_at a 0)) (run_at ed left k a)
    (pick (eqb (byte_at a 0) type_unusable) (unusable_item ed k a)
    (pick (stray_type (byte_at a 0)) (fault k) (unused k))))

-- an item, then what follows after its slots; the walk ends at a fault
unfoldable pub followed : Item → (ℕ → List Item) → List Item
followed (unused k) rest = unused k ∷ rest 1
followed (stale k n) rest = stale k n ∷ rest n
followed (entry e) rest = entry e ∷ rest e.slots
followed (fault k) rest = fault k ∷ []

-- the items of `left` slots, of which slot k is the first and `a` starts with it. The first number only bounds the steps,
-- since an item has a slot at least: as many steps as slots suffice.
unfoldable pub walk : Edition → ℕ → ℕ → ℕ → List ℕ → List Item
walk ed zero left k a = []
walk ed (suc steps) zero k a = []
walk ed (suc steps) (suc left) k a =
    followed (item_at ed (suc left) k a) (λ n. walk ed steps (suc left - n) (k + n) (drop (slot_bytes * n) a))

-- the same without the count
unfoldable pub walk_all : Edition → ℕ → ℕ → List ℕ → List Item
walk_all ed left k a = walk ed left left k a

-- its equation (`walk-equation`): the item that stands first, then the walk over the slots behind it
abbrev pub WalkEquation : Type 0
WalkEquation =
    (ed : Edition) (left k : ℕ) (a : List ℕ)
    → walk_all ed left k a
    ≡ pick (eqb left 0) [] (followed (item_at ed left k a) (λ n. walk_all ed (left - n) (k + n) (drop (slot_bytes * n) a)))

-- the count never runs out (`steps-suffice`): with more steps the walk is the same
abbrev pub StepsSuffice : Type 0
StepsSuffice = (ed : Edition) (steps left k : ℕ) (a : List ℕ) → left ≤ steps → walk ed steps left k a ≡ walk_all ed left k a

-- ---- the index area of an image
-- the place of slot k
unfoldable pub slot_at : List ℕ → Geometry → ℕ → ℕ
slot_at s g k = length s - g.index_bytes + slot_bytes * k

-- the slots between the start marker and the volume identifier
unfoldable pub inner_slots : Geometry → ℕ
inner_slots g = g.index_bytes / slot_bytes - 2

-- all between them, in slot order
unfoldable pub items_of : List ℕ → Geometry → List Item
items_of s g = walk_all g.edition (inner_slots g) 1 (drop (slot_at s g 1) s)

unfoldable pub entries_of : List Item → List Entry
entries_of [] = []
entries_of (unused k ∷ is) = entries_of is
entries_of (stale k n ∷ is) = entries_of is
entries_of (entry e ∷ is) = e ∷ entries_of is
entries_of (fault k ∷ is) = entries_of is

unfoldable pub is_fault : Item → Bool
is_fault (unused k) = false
is_fault (stale k n) = false
is_fault (entry e) = false
is_fault (fault k) = true

-- ---- the two ends
-- the volume identifier is the last slot: stamp at 4, name at 12, 52 bytes
unfoldable pub identifier_at : List ℕ → ℕ
identifier_at s = length s - slot_bytes

unfoldable pub volume_field : List ℕ → List ℕ
volume_field s = part s (identifier_at s + 12) 52

unfoldable pub volume_name : List ℕ → List ℕ
volume_name s = up_to_zero (volume_field s)

unfoldable pub volume_stamp : List ℕ → ℤ
volume_stamp s = stamp_in s (identifier_at s + 4)

unfoldable pub identifier_good : Edition → List ℕ → Bool
identifier_good ed s =
    eqb (byte_at s (identifier_at s)) type_identifier
    && sum_good ed (part s (identifier_at s) slot_bytes)
    && has_zero (volume_field s)
    && volume_text_good (volume_name s)

unfoldable pub marker_good : List ℕ → Geometry → Bool
marker_good s g = eqb (byte_at s (slot_at s g 0)) type_marker && sum_good g.edition (part s (slot_at s g 0) slot_bytes)

-- refusal 6 is for an index that is not sound: markers, runs, stray slots, names, sums
unfoldable pub index_sound : List ℕ → Geometry → List Item → Bool
index_sound s g is = marker_good s g && identifier_good g.edition s && all (λ i. not (is_fault i)) is

-- ---- as it is stored
-- a type, its sum, what follows, and zeros: n bytes
unfoldable pub entry_bytes : Edition → ℕ → List ℕ → ℕ → List ℕ
entry_bytes ed t body n = padded ((t ∷ sum_of ed (t ∷ body)) ++ body) n

unfoldable pub marker_bytes : Edition → List ℕ
marker_bytes ed = entry_bytes ed type_marker [] slot_bytes

-- the sum is the first of the three bytes between the type and the stamp
unfoldable pub identifier_bytes : Edition → ℤ → List ℕ → List ℕ
identifier_bytes ed stamp name =
    let sum : List ℕ = sum_of ed (type_identifier ∷ stamp_bytes stamp ++ name) in
    padded ((type_identifier ∷ padded sum 3) ++ (stamp_bytes stamp ++ name)) slot_bytes

-- n unused slots
unfoldable pub unused_bytes : Edition → ℕ → List ℕ
unused_bytes ed zero = []
unused_bytes ed (suc n) = entry_bytes ed type_unused [] slot_bytes ++ unused_bytes ed n

-- the fewest continuing slots that hold a name of n bytes and its zero
unfoldable pub continuing : Edition → ℕ → ℕ → ℕ
continuing ed t n = (n + name_at ed t) / slot_bytes

-- a file's region and length
unfoldable pub region_bytes : Edition → Entry → List ℕ
region_bytes ed e = le_bytes 8 e.start ++ (le_bytes 8 (stored_end ed e.end) ++ le_bytes 8 e.length)

-- a run of the fewest slots
unfoldable pub run_bytes : Edition → Entry → List ℕ
run_bytes ed e =
    entry_bytes ed e.kind
    (((e.slots - 1) ∷ stamp_bytes e.stamp) ++ (pick (file_type e.kind) (region_bytes ed e) [] ++ e.path))
    (slot_bytes * e.slots)

-- an image with this type and stamp at the entry whose first slot is at the place: nine bytes. Only where deleted entries are kept,
-- since no sum is made good here.
unfoldable pub retyped : Edition → List ℕ → ℕ → ℕ → ℤ → List ℕ
retyped ed s at kind stamp = splice (splice s at (kind ∷ [])) (at + stamp_at ed) (stamp_bytes stamp)
