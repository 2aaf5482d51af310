-- In an image that opens each live file reads its bytes. Assumes nothing.
use Prim.Native.Nat.{ℕ, ◌*◌}
use mathlib.Core.Path.{◌≡◌, sym, ◌∙◌}
use mathlib.Core.Bool.{true}
use mathlib.Core.List.{List}
use mathlib.Core.Option.{some}
use lib.ListN.{length}
use Rattle.rules.specs.Lists.{only, All}
use Rattle.rules.specs.Lists.Laws.{length_part}
use Rattle.rules.specs.SuperBlock.{Geometry, block_length}
use Rattle.rules.specs.SuperBlock.Laws.{GoodGeometry}
use Rattle.rules.specs.Index.{Entry, file_type, type_file}
use Rattle.rules.specs.Regions.{region_good}
use Rattle.rules.specs.Paths.{is_live, lookup, paths_sound}
use Rattle.rules.specs.Refusals.{accepted, Volume, entries, judge}
use Rattle.rules.specs.Refusals.Laws.{Opens, judge-opens}
use Rattle.rules.specs.Reading.{file_bytes}
use Rattle.rules.specs.Reading.Laws.{read_done}
use Rattle.rules.specs.History.{ReadsBack}
use Rattle.after.specs.After.{is_named, seen, sight}
use Rattle.laws.proofs.Lists.Every.{all_placed, all-and, all-weaken, all_map, all-only}
use Rattle.laws.proofs.Entries.Regions.{sound-says, file-region}
use Rattle.laws.proofs.Entries.Walked.{Named, named-entries}
use Rattle.laws.proofs.Entries.Paths.{lookup-live}
use Rattle.laws.proofs.Images.Areas.{file-inside}
use Rattle.demand3.proofs.Seen.{live-kind}

-- ---- a live entry is the one that its path finds
abbrev FindsItself : List Entry → Entry → Type 0
FindsItself es e = is_live e ≡ true → lookup e.path es ≡ some e

all_found : (es : List Entry) → paths_sound es ≡ true → All (FindsItself es) es
all_found es h = all_placed (FindsItself es) es (λ pre e post w. lookup-live es pre e post h w)

-- ---- a file's bytes
bytes-length : (s : List ℕ) (g : Geometry) (e : Entry) → GoodGeometry (length s) g → file_type e.kind ≡ true → region_good g e ≡ true
    → length (file_bytes s g e) ≡ e.length
unfolding file_bytes
bytes-length s g e good f h = length_part s (e.start * block_length g) e.length (file-inside (length s) g e good (file-region g e f h))

-- ---- read
-- what is known of an entry of an image that opens
record Known (v : Volume) (e : Entry) : Type 0 where
  named : Named e
  region : region_good v.geometry e ≡ true
  found : FindsItself (entries v) e

reads_known : (s : List ℕ) (v : Volume) → judge s ≡ accepted v → Opens s v → (e : Entry) → Known v e → ReadsBack s (seen s v.geometry e)
unfolding seen is_live file_type
reads_known s v opens o e k live kind out room =
    let l = live-kind e.kind live in
    let q : e.kind ≡ type_file = sym l.1 ∙ kind in
    let f : file_type e.kind ≡ true = rw q in
    let n : length (file_bytes s v.geometry e) ≡ e.length = bytes-length s v.geometry e o.geometry-good f k.region in
    rw n (read_done s v opens e.path out e (k.named l.0) (k.found live) q (rw (← n) room))

known : (s : List ℕ) (v : Volume) → Opens s v → All (Known v) (entries v)
known s v o =
    let es = entries v in
    all-weaken _ (Known v) (λ e h. record { named = h.0.0; region = h.0.1; found = h.1 }) es
    (all-and _ (FindsItself es) es
    (all-and Named _ es (named-entries s v o) (sound-says v.geometry es o.regions-sound).each)
    (all_found es o.paths-sound))

pub reads-back : (s : List ℕ) (v : Volume) → judge s ≡ accepted v → All (ReadsBack s) (sight s v)
unfolding sight
reads-back s v opens =
    let o = judge-opens s v opens in
    all_map (ReadsBack s) (seen s v.geometry) (only is_named (entries v))
    (all-only (λ e. ReadsBack s (seen s v.geometry e)) is_named (entries v)
    (all-weaken (Known v) (λ e. ReadsBack s (seen s v.geometry e)) (reads_known s v opens o) (entries v) (known s v o)))
