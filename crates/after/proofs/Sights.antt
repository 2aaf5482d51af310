-- What is seen of an entry depends on its bytes; unusable regions are as they were where entries change in place, and no file or directory has one. Assumes nothing.
use Prim.Native.Nat.{ℕ}
use mathlib.Core.Path.{◌≡◌, refl, sym, ap, ap₂, ◌∙◌}
use mathlib.Core.Bool.{Bool, true, false, ◌&&◌, not}
use mathlib.Core.List.{List, ◌∷◌, map}
use lib.ListN.{length}
use borrow.Author.Tests.{eqb-true}
use Rattle.rules.specs.Lists.{only, eq_list, All}
use Rattle.rules.specs.Lists.Laws.{and_left, only_no}
use Rattle.rules.specs.SuperBlock.{Geometry, block_length}
use Rattle.rules.specs.SuperBlock.Laws.{GoodGeometry}
use Rattle.rules.specs.Index.{Entry, run_type, live_type, deleted_type, type_unusable}
use Rattle.rules.specs.Regions.{Extent, extent_of, regions_sound}
use Rattle.rules.specs.Reading.{file_bytes}
use Rattle.rules.specs.Paths.{is_live, live_at, is_deleted}
use Rattle.rules.specs.Refusals.{Volume, entries}
use Rattle.rules.specs.Writing.{without, undeleted}
use Rattle.rules.specs.History.{Kept, kept_at}
use Rattle.after.specs.After.{is_named, seen, sight, is_unusable}
use Rattle.laws.proofs.Lists.Parts.{map-map, only-map, only-only, only-ext}
use Rattle.laws.proofs.Lists.Every.{map-ext, all_of, all-weaken, all-and, all-only}
use Rattle.laws.proofs.Entries.EntryKinds.{run-usable}
use Rattle.laws.proofs.Entries.Regions.{SameRegion, sound-says}
use Rattle.laws.proofs.Entries.Walked.{Bare}
use Rattle.laws.proofs.Images.Kept.{Between}
use Rattle.laws.proofs.Images.Areas.{bytes-kept}

-- ---- what is seen
pub seen_same : (s t : List ℕ) (g h : Geometry) (e : Entry) → file_bytes t h e ≡ file_bytes s g e → seen t h e ≡ seen s g e
unfolding seen
seen_same s t g h e same = rw same

-- of files and directories among some entries, where the area between super-block and index is kept
pub seen-part : (s t : List ℕ) (g h : Geometry) → GoodGeometry (length s) g → Between s t g → block_length h ≡ block_length g → (q : Entry → Bool) (es : List Entry)
    → All Bare es → regions_sound g es ≡ true → map (seen t h) (only is_named (only q es)) ≡ map (seen s g) (only is_named (only q es))
seen-part s t g h good same block q es b r =
    let each = all-weaken _ (λ e. seen t h e ≡ seen s g e) (λ e p. seen_same s t g h e (bytes-kept s t g h e good same block p.0 p.1)) es
    (all-and Bare _ es b (sound-says g es r).each) in
    map-ext (seen t h) (seen s g) (only is_named (only q es)) (all-only _ is_named (only q es) (all-only _ q es each))

-- ---- unusable regions
abbrev pub extents_of : List Entry → List Extent
extents_of es = map extent_of (only is_unusable es)

-- entries with the regions that they had
pub extents-map : (f : Entry → Entry) → ((e : Entry) → SameRegion e (f e)) → (es : List Entry) → extents_of (map f es) ≡ extents_of es
unfolding is_unusable extent_of
extents-map f same es =
    ap (map extent_of) (only-map is_unusable f es)
    ∙ map-map extent_of f (only (λ e. is_unusable (f e)) es)
    ∙ map-ext _ extent_of (only (λ e. is_unusable (f e)) es) (all_of _ (λ e. ap₂ {C = Extent} (λ a b. record { start = a; end = b }) (same e).start (same e).end) (only (λ e. is_unusable (f e)) es))
    ∙ ap (map extent_of) (only-ext _ is_unusable (λ e. (same e).unusable) es)

-- one entry more
pub extents-named : (e : Entry) (es : List Entry) → run_type e.kind ≡ true → extents_of (e ∷ es) ≡ extents_of es
unfolding is_unusable
extents-named e es r = ap (map extent_of) (only_no is_unusable e es (run-usable e.kind r))

-- some of them, all unusable ones among them
pub extents-only : (q : Entry → Bool) → ((e : Entry) → is_unusable e ≡ true → q e ≡ true) → (es : List Entry) → extents_of (only q es) ≡ extents_of es
extents-only q h es = ap (map extent_of) (only-only is_unusable q es ∙ only-ext _ is_unusable (λ e. by (q e) (is_unusable e) (h e)) es)
  where
    by : (a b : Bool) → (b ≡ true → a ≡ true) → (a && b) ≡ b
    by true b k = refl
    by false true k = k refl
    by false false k = refl

pub extents-undeleted : (es : List Entry) → extents_of (undeleted es) ≡ extents_of es
unfolding is_unusable is_deleted deleted_type
extents-undeleted = extents-only (λ e. not (is_deleted e)) (λ e u. ap (λ t. not (deleted_type t)) (eqb-true e.kind type_unusable u))

-- ---- all but the path's live one
-- two choices in either order
and-swap : (a b : Bool) → (a && b) ≡ (b && a)
and-swap true true = refl
and-swap true false = refl
and-swap false true = refl
and-swap false false = refl

pub without-seen : (s : List ℕ) (v : Volume) (path : List ℕ) → map (seen s v.geometry) (only is_named (without path (entries v))) ≡ only (λ k. not (kept_at path k)) (sight s v)
unfolding sight seen kept_at live_at
without-seen s v path =
    let g : Geometry = v.geometry in
    ap (map (seen s g)) (only-only is_named (λ e. not (live_at path e)) (entries v) ∙ only-ext _ _ (λ e. and-swap (not (live_at path e)) (is_named e)) (entries v) ∙ sym (only-only (λ e. not (live_at path e)) is_named (entries v)))
    ∙ sym (only-map (λ (k : Kept). not (kept_at path k)) (seen s g) (only is_named (entries v)))

pub extents-without : (path : List ℕ) (es : List Entry) → extents_of (without path es) ≡ extents_of es
unfolding is_unusable live_at is_live live_type
extents-without path es =
    extents-only (λ e. not (live_at path e)) (λ e u. ap not (and_left (is_live e) (eq_list e.path path) (ap live_type (eqb-true e.kind type_unusable u)))) es
