-- 01, "Refusal numbers": a chain of tests, each with its number, and the first eight of them, which judge an image.
use Rattle.std.specs.Prelude.{ℕ, ◌≡◌, Bool, true, false, List, length, leb}
use Rattle.std.proofs.Math.Option.{Option, none, some}
use Rattle.rules.specs.Lists.{pick, part, eq_list}
use Rattle.rules.specs.Fields.{byte_at, checks}
use Rattle.rules.specs.Editions.{Edition, edition10, edition110, version_read}
use Rattle.rules.specs.SuperBlock.{Geometry, geometry_of, geometry_good, length_good, magic, magic_at, version_at, sealed_length}
use Rattle.rules.specs.Index.{Item, Entry, items_of, entries_of, index_sound}
use Rattle.rules.specs.Regions.{regions_sound}
use Rattle.rules.specs.Paths.{paths_sound}
pub mod Laws

pub data Verdict (A : Type 0) : Type 0 where
  refused : ℕ → Verdict A
  accepted : A → Verdict A

-- what must hold, the number where it does not, and what comes after: the first test that fails gives the number
unfoldable pub need : {A : Type 0} → Bool → ℕ → Verdict A → Verdict A
need true n v = v
need false n v = refused n

-- what must be found, the number where it is not, and what comes after with it
unfoldable pub need_found : {A B : Type 0} → Option B → ℕ → (B → Verdict A) → Verdict A
need_found none n next = refused n
need_found (some x) n next = next x

-- what was accepted goes on
unfoldable pub and_then : {A B : Type 0} → Verdict A → (A → Verdict B) → Verdict B
and_then (refused n) next = refused n
and_then (accepted a) next = next a

-- ---- an image that opens
pub record Volume : Type 0 where
  pub geometry : Geometry
  pub items : List Item

abbrev pub entries : Volume → List Entry
entries v = entries_of v.items

unfoldable pub magic_good : Edition → List ℕ → Bool
magic_good ed s = eq_list (part s (magic_at ed) 3) magic

-- the magic alone decides the edition: one that then fails is not tried as the other
unfoldable pub edition_of : List ℕ → Option Edition
edition_of s = pick (magic_good edition10 s) (some edition10) (pick (magic_good edition110 s) (some edition110) none)

unfoldable pub version_good : Edition → List ℕ → Bool
version_good ed s = version_read ed (byte_at s (version_at ed))

unfoldable pub checksum_good : Edition → List ℕ → Bool
checksum_good ed s = checks (part s (magic_at ed) sealed_length)

-- 6, 7 and 8, each over the whole index
unfoldable pub judge_index : List ℕ → Geometry → List Item → Verdict Volume
judge_index s g is =
    need (index_sound s g is) 6
    (need (regions_sound g (entries_of is)) 7
    (need (paths_sound (entries_of is)) 8
    (accepted (record { geometry = g; items = is }))))

-- 3 to 5, of a volume of this edition
unfoldable pub judge_super : List ℕ → Edition → Verdict Geometry
judge_super s ed =
    need (version_good ed s) 3
    (need (checksum_good ed s) 4
    (need (geometry_good (length s) (geometry_of ed s)) 5
    (accepted (geometry_of ed s))))

-- 1 to 5
unfoldable pub judge_geometry : List ℕ → Verdict Geometry
judge_geometry s = need (length_good (length s)) 1 (need_found (edition_of s) 2 (judge_super s))

unfoldable pub judge : List ℕ → Verdict Volume
judge s = and_then (judge_geometry s) (λ g. judge_index s g (items_of s g))

-- as the programs judge what they read: more than 65,536 bytes are refusal 1
unfoldable pub judge_read : List ℕ → Verdict Volume
judge_read s = need (leb (length s) 65_536) 1 (judge s)

-- ---- no image opens as both editions, whichever magic were sought first
-- as an image would be judged if only this edition were known
unfoldable pub judge_as : Edition → List ℕ → Verdict Volume
judge_as ed s =
    need (length_good (length s)) 1
    (need (magic_good ed s) 2
    (and_then (judge_super s ed) (λ g. judge_index s g (items_of s g))))

abbrev pub OneEdition : Type 0
OneEdition = (s : List ℕ) (v w : Volume) → judge_as edition10 s ≡ accepted v → judge_as edition110 s ≡ accepted w → ⊥

-- an image opens exactly as one of the editions would open it by itself, and then has no other's magic: whichever were sought first, the same
-- images would open, and alike
abbrev pub AnyOrder : Type 0
AnyOrder =
    (s : List ℕ) (v : Volume)
    → (judge s ≡ accepted v → judge_as v.geometry.edition s ≡ accepted v)
    × ((ed : Edition) → judge_as ed s ≡ accepted v → judge s ≡ accepted v)
    × ((ed other : Edition) → judge_as ed s ≡ accepted v → magic_good other s ≡ true → other ≡ ed)
