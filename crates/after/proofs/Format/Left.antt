-- AN ACCEPTED FORMAT leaves an image that opens, has blocks of the length that was asked for, and has no entry. Assumes nothing.
use Prim.Native.Nat.{ℕ, ◌≤◌}
use mathlib.Core.Path.{◌≡◌, refl, sym, ◌∙◌}
use mathlib.Core.Bool.{true}
use mathlib.Core.List.{List, []}
use mathlib.Core.Option.{some}
use native.Mathlib.Omega.{arith}
use lib.ListN.{length}
use lib.IntN.{ℤ}
use Rattle.rules.specs.Lists.{all, every_two, only}
use Rattle.rules.specs.Editions.{Edition, version_named, edition_named, version_read}
use Rattle.rules.specs.SuperBlock.{Geometry, length_good, geometry_good, field_of}
use Rattle.rules.specs.SuperBlock.Laws.{GoodGeometry, geometry-good, length-least, as_stored, stored-block, stored-index, stored-edition, field_is}
use Rattle.rules.specs.Names.{volume_name_good}
use Rattle.rules.specs.Names.Laws.{volume-name}
use Rattle.rules.specs.Index.{entries_of}
use Rattle.rules.specs.Regions.{regions_sound}
use Rattle.rules.specs.Paths.{paths_sound}
use Rattle.rules.specs.Refusals.{Volume}
use Rattle.rules.specs.Refusals.Laws.{length-bounds, Opens, super-opens, opens-judge, length-formatted, formatted-ends, fresh-edition, fresh-version, fresh-block}
use Rattle.rules.proofs.Refusals.Laws.{format-super}
use Rattle.rules.specs.Writing.{Written, format_of, formatted, fresh_geometry}
use Rattle.laws.proofs.Lists.Perms.{perm-of}
use Rattle.after.specs.After.{sight, unusables, AfterFormat}
use Rattle.laws.proofs.Images.Accepted.{passed-need, passed-found, passed-done}
use Rattle.laws.proofs.Index.Ends.{ends-sound}
use Rattle.laws.proofs.Index.Slots.{no_items}

-- ---- what an accepted format has passed
record FormatPassed (s : List ℕ) (version bytes_per_block reserved : ℕ) (name : List ℕ) (stamp : ℤ) : Type 0 where
  block_field : ℕ
  long : length_good (length s) ≡ true
  known : version_named version ≡ true
  field : field_of bytes_per_block ≡ some block_field
  good : geometry_good (length s) (fresh_geometry (edition_named version) (length s) block_field reserved stamp) ≡ true
  named : volume_name_good name ≡ true
  image : (format_of s version bytes_per_block reserved name stamp).image ≡ formatted s (fresh_geometry (edition_named version) (length s) block_field reserved stamp) name

format-passed : (s : List ℕ) (version bytes_per_block reserved : ℕ) (name : List ℕ) (stamp : ℤ) → (format_of s version bytes_per_block reserved name stamp).refusal ≡ 0
    → FormatPassed s version bytes_per_block reserved name stamp
unfolding format_of
format-passed s version bytes_per_block reserved name stamp z =
    let w : Written = format_of s version bytes_per_block reserved name stamp in
    let p₁ = passed-need s w z (length_good (length s)) 1 _ (omega arith) refl in
    let p₂ = passed-need s w z (version_named version) 5 _ (omega arith) p₁.1 in
    let p₃ = passed-found s w z (field_of bytes_per_block) 5 _ (omega arith) p₂.1 in
    let p₄ = passed-need s w z (geometry_good (length s) (fresh_geometry (edition_named version) (length s) p₃.0 reserved stamp)) 5 _ (omega arith) p₃.2 in
    let p₅ = passed-need s w z (volume_name_good name) 10 _ (omega arith) p₄.1 in
    record { block_field = p₃.0; long = p₁.0; known = p₂.0; field = p₃.1; good = p₄.0; named = p₅.0; image = passed-done s _ w p₅.1 }

-- ---- an index of 128 bytes has no slot between its ends
fresh-index : (ed : Edition) (n b reserved : ℕ) (stamp : ℤ) → (fresh_geometry ed n b reserved stamp).index_bytes ≡ 128
unfolding fresh_geometry
fresh-index ed n b reserved stamp = refl

no-regions : (g : Geometry) → regions_sound g (entries_of []) ≡ true
unfolding regions_sound entries_of all every_two
no-regions g = refl

no-paths : paths_sound (entries_of []) ≡ true
unfolding paths_sound entries_of all every_two
no-paths = refl

empty : Geometry → Volume
empty g = record { geometry = g; items = [] }

no-sight : (t : List ℕ) (g : Geometry) → sight t (empty g) ≡ []
unfolding sight only entries_of empty
no-sight t g = refl

no-unusable : (g : Geometry) → unusables (empty g) ≡ []
unfolding unusables only entries_of empty
no-unusable g = refl

formatted-opens : (s : List ℕ) (g : Geometry) (name : List ℕ) → GoodGeometry (length s) g → length s ≤ 16_777_216 → version_read g.edition g.version ≡ true
    → g.index_bytes ≡ 128 → volume_name_good name ≡ true
    → Opens (formatted s g name) (empty (as_stored g))
unfolding empty
formatted-opens s g name good high v i named =
    let t = formatted s g name in
    let short = (volume-name name named).1 in
    let room = length-least (length s) g good in
    let l : length t ≡ length s = length-formatted s g name room short in
    let i' : (as_stored g).index_bytes ≡ 128 = stored-index g ∙ i in
    super-opens t (empty (as_stored g)) (format-super s g name high v good short) (sym (no_items t (as_stored g) i'))
    (ends-sound g.edition t g.stamp name (omega arith) (rw l (formatted-ends s g name room short)) named (as_stored g) (stored-edition g) i')
    (no-regions (as_stored g))
    no-paths

pub format-left : AfterFormat
unfolding empty
format-left s version bytes_per_block reserved name stamp e =
    let a = format-passed s version bytes_per_block reserved name stamp e in
    let ed = edition_named version in
    let g = fresh_geometry ed (length s) a.block_field reserved stamp in
    let t = formatted s g name in
    let o : Opens t (empty (as_stored g)) =
    formatted-opens s g name (geometry-good (length s) g a.good) (length-bounds (length s) a.long).1
    (fresh-version ed (length s) a.block_field reserved stamp) (fresh-index ed (length s) a.block_field reserved stamp) a.named in
    rw a.image (record {
      volume = empty (as_stored g);
      opens = opens-judge t (empty (as_stored g)) o;
      edition = stored-edition g ∙ fresh-edition ed (length s) a.block_field reserved stamp;
      blocks = stored-block g ∙ fresh-block ed (length s) a.block_field reserved stamp ∙ (field_is bytes_per_block a.block_field a.field).2;
      agree = perm-of _ _ (no-sight t (as_stored g));
      unusable = perm-of _ _ (no-unusable (as_stored g));
    })
