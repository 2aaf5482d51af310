-- Deleted runs cleared one after the other, while the walk goes on behind them.
use Rattle.std.specs.Prelude.{ℕ, ◌+◌, ◌*◌, ◌≡◌, true, false, ◌&&◌, ℤ}
use Rattle.std.proofs.Math.Path.{refl, sym, ap}
use Rattle.std.proofs.Common.{◌∙◌, arith}
use mathlib.Core.List.{List, [], ◌∷◌}
use Rattle.std.proofs.Math.ListN.{length, drop}
use Rattle.rules.specs.Lists.{pick}
use Rattle.rules.specs.Lists.Laws.{and-true}
use Rattle.rules.specs.Fields.{splice}
use Rattle.rules.specs.Fields.Laws.{length-splice}
use Rattle.rules.specs.Editions.{keeps_deleted}
use Rattle.rules.specs.SuperBlock.{Geometry, writable, put_sizes}
use Rattle.rules.specs.SuperBlock.Laws.{GoodGeometry}
use Rattle.rules.specs.Index.{Entry, Item, deleted_type, slot_at, unused_bytes, items_of, entries_of, marker_good, identifier_good, index_sound}
use Rattle.rules.specs.Index.Items.{faultless}
use Rattle.rules.specs.Index.Laws.{length-unused_bytes}
use Rattle.rules.specs.Index.Walk.{pick-both}
use Rattle.rules.specs.Refusals.{accepted, judge}
use Rattle.rules.specs.Refusals.Laws.{Opens, judge-opens, opens-judge}
use Rattle.rules.specs.Paths.{is_deleted}
use Rattle.rules.specs.Writing.{cleared, reclaim_of}
use Rattle.rules.specs.Writing.Laws.{wrote, tidy_image, reclaim-done}
use Rattle.laws.proofs.Lists.Spans.{drop-splice-after}
use Rattle.laws.proofs.Index.Slots.{slot-at}
use Rattle.laws.proofs.Images.Tidying.{settled_volume, settled-entries, tidied-opens}
use Rattle.laws.proofs.Images.Clearing.{cleared-none}
use Rattle.laws.proofs.Images.Sizes.{sizes-long, sizes-items}
use Rattle.editions.specs.View.{edition_view}
use Rattle.geometry.specs.declared.Geometry.{Geometry as Held}
use Rattle.geometry.specs.View.{geometry_view}
use Rattle.slots.specs.declared.Head.{Head}
use Rattle.slots.specs.View.{head_view, HeadIn}
use Rattle.index.specs.declared.Cursor.{Cursor}
use Rattle.index.specs.View.{SumsFrom, sums_kept, items_from}
use Rattle.index.specs.Steps.{Walks, Step, entries_from, items_kept, walks-kept, sums-step}
use Rattle.paths.specs.Entries.{all-undeleted}
use Rattle.super_block.specs.View.{Judged as GoodSuper}
use Rattle.judging.specs.View.{Opened, volume_of, opened-super, opened-sound}
use Rattle.retyping.specs.Planned.{tidy_of}
use Rattle.free_runs.specs.declared.Gone.TheVariants.{Deleted}
use Rattle.free_runs.specs.View.{is_gone}
use Rattle.erasing.specs.Least.{least_sizes, SameIndex}

-- ---- an entry that stands at the front
-- the image once its run is cleared, if it is deleted
unfoldable pub head_cleared : List ℕ → Head → List ℕ
head_cleared s h = pick (deleted_type h.kind) (splice s h.at.0 (unused_bytes (edition_view h.edition) h.slots)) s

-- what is written lies before the place n
module _ (s : List ℕ) (h : Head) (head : HeadIn s h) where
  cleared-long : length (head_cleared s h) ≡ length s
  unfolding head_cleared
  cleared-long =
      pick-both (λ (u : List ℕ). length u ≡ length s) (deleted_type h.kind) _ s
      (length-splice s h.at.0 (unused_bytes (edition_view h.edition) h.slots) (omega (arith, head.fits, length-unused_bytes (edition_view h.edition) h.slots))) refl

  cleared-behind : (n : ℕ) → n ≡ h.at.0 + 64 * h.slots → drop n (head_cleared s h) ≡ drop n s
  unfolding head_cleared
  cleared-behind n e =
      pick-both (λ (u : List ℕ). drop n u ≡ drop n s) (deleted_type h.kind) _ s
      (drop-splice-after s h.at.0 (unused_bytes (edition_view h.edition) h.slots) (omega (arith, head.fits)) n (omega (arith, length-unused_bytes (edition_view h.edition) h.slots))) refl

-- ---- clearing what is left from d in t comes to clearing all from c in s
pub record Clears (s : List ℕ) (c : Cursor) (t : List ℕ) (d : Cursor) : Type 0 where
  pub edition : d.edition ≡ c.edition
  pub place : (g : Geometry) → c.at.0 ≡ slot_at s g c.slot.0 → d.at.0 ≡ slot_at t g d.slot.0
  pub rest : (g : Geometry) → edition_view c.edition ≡ g.edition → c.at.0 ≡ slot_at s g c.slot.0 → cleared is_deleted t g (entries_from t d) ≡ cleared is_deleted s g (entries_from s c)

pub clears-none : (s : List ℕ) (c : Cursor) → Clears s c s c
clears-none s c = record { edition = refl; place = λ g p. p; rest = λ g e p. refl }

clears-both : (s t u : List ℕ) (b c d : Cursor) → Clears s b t c → Clears t c u d → Clears s b u d
clears-both s t u b c d x y = record {
  edition = y.edition ∙ x.edition;
  place = λ g p. y.place g (x.place g p);
  rest = λ g e p. y.rest g (ap edition_view x.edition ∙ e) (x.place g p) ∙ x.rest g e p;
}

pub clears-all : (s t : List ℕ) (c d : Cursor) → Clears s c t d → entries_from t d ≡ []
    → (g : Geometry) → edition_view c.edition ≡ g.edition → c.at.0 ≡ slot_at s g c.slot.0 → t ≡ cleared is_deleted s g (entries_from s c)
unfolding cleared
clears-all s t c d x e g of p = rw e at (x.rest g of p)

-- a step, and the entry that it found
module _ (s : List ℕ) (c : Cursor) (h : Head) (d : Cursor) (step : Step s c h d) (t : List ℕ) (is : t ≡ head_cleared s h) where
  long : length t ≡ length s
  long = ap length is ∙ cleared-long s h step.head

  same : drop d.at.0 t ≡ drop d.at.0 s
  same = ap (drop d.at.0) is ∙ cleared-behind s h step.head d.at.0 step.after

  pub step-walks : Walks t d
  step-walks = walks-kept s t d long same step.walks

  -- the sums are of slots that were not written
  pub step-sums : (sums : List ℕ) → SumsFrom s sums c → SumsFrom t sums d
  step-sums sums w = sums_kept s sums d (sums-step s sums c w d h step) t same

  head-place : (g : Geometry) → c.at.0 ≡ slot_at s g c.slot.0 → h.at.0 ≡ slot_at s g h.slot.0
  head-place g p = omega (arith, slot-at s g c.slot.0, slot-at s g h.slot.0, step.place)

  next_place : (g : Geometry) → c.at.0 ≡ slot_at s g c.slot.0 → d.at.0 ≡ slot_at t g d.slot.0
  next_place g p = omega (arith, slot-at s g c.slot.0, slot-at t g d.slot.0, step.place, step.after, step.number, long)

  front : (g : Geometry) → edition_view c.edition ≡ g.edition → h.at.0 ≡ slot_at s g h.slot.0 → (es : List Entry) → cleared is_deleted s g (head_view s h ∷ es) ≡ cleared is_deleted t g es
  unfolding cleared is_deleted head_view head_cleared
  front g of p es = rw (is, p, ap edition_view step.of ∙ of)

  step-clears : Clears s c t d
  step-clears = record {
    edition = step.edition;
    place = next_place;
    rest = λ g of p. ap (λ es. cleared is_deleted t g es) (ap entries_of (items_kept s t d long same))
        ∙ sym (front g of (head-place g p) (entries_from s d))
        ∙ sym (ap (cleared is_deleted s g) step.entries);
  }

  pub clears-more : (r : List ℕ) (b : Cursor) → Clears r b s c → Clears r b t d
  clears-more r b x = clears-both r s t b c d x step-clears

-- ---- the image that a reclaim leaves, of a volume with the geometry g
-- these sizes, and the deleted runs cleared
unfoldable pub least_written : List ℕ → Geometry → Geometry → List ℕ
least_written s g k = cleared is_deleted (put_sizes s k) k (entries_of (items_of s g))

unfoldable pub reclaimed : List ℕ → Geometry → ℤ → List ℕ
reclaimed s g z =
    cleared is_deleted (put_sizes (tidy_image s (volume_of s g)) (least_sizes Deleted s g z)) (least_sizes Deleted s g z) (entries_of (items_of s g))

pub reclaim-written : (s : List ℕ) (g : Geometry) → judge s ≡ accepted (volume_of s g) → writable g ≡ true → (z : ℤ) → reclaim_of s z ≡ wrote (reclaimed s g z)
unfolding reclaimed least_sizes is_gone
reclaim-written s g o c z = reclaim-done s (volume_of s g) o c z

-- as a program clears them: from a cursor at the first inner slot on
pub clears-index : (s u : List ℕ) (g : Geometry) (c : Cursor) → edition_view c.edition ≡ g.edition → c.at.0 ≡ slot_at s g c.slot.0 → items_from s c ≡ items_of s g
    → ((h : Geometry) → edition_view c.edition ≡ h.edition → c.at.0 ≡ slot_at s h c.slot.0 → u ≡ cleared is_deleted s h (entries_from s c))
    → (h : Geometry) → SameIndex h g → u ≡ cleared is_deleted s h (entries_of (items_of s g))
clears-index s u g c of at items clears h same =
    clears h (of ∙ sym same.0) (omega (arith, at, slot-at s g c.slot.0, slot-at s h c.slot.0, same.1))
    ∙ ap (λ is. cleared is_deleted s h (entries_of is)) items

-- the sizes lie before the index area, whose size is kept
module _ (s : List ℕ) (g : Geometry) (good : GoodGeometry (length s) g) (k : Geometry) (kept : SameIndex k g) (t : List ℕ) (put : t ≡ put_sizes s k) where
  put-long : length t ≡ length s
  put-long = ap length put ∙ sizes-long s g k good

  put-items : items_of t g ≡ items_of s g
  put-items = rw put (sizes-items s g k good g refl refl)

  pub put-cleared : (u : List ℕ) → ((h : Geometry) → SameIndex h g → u ≡ cleared is_deleted t h (entries_of (items_of t g))) → u ≡ least_written s g k
  unfolding least_written
  put-cleared u clears = clears k kept ∙ ap (λ is. cleared is_deleted t k (entries_of is)) put-items ∙ rw put

  pub put_alone : keeps_deleted g.edition ≡ false → t ≡ least_written s g k
  unfolding least_written items_of
  put_alone keeps = put ∙ sym (cleared-none is_deleted (put_sizes s k) k (entries_of (items_of s g)) (all-undeleted g.edition keeps _ _ _))

-- the index is as it was
pub put-sound : (s : List ℕ) (g : Held) → Opened s g → (k : Geometry) → SameIndex k (geometry_view g) → (t : List ℕ) → t ≡ put_sizes s k
    → GoodSuper t g × (faultless (items_of t (geometry_view g)) ≡ true)
unfolding index_sound faultless
put-sound s g o k kept t put =
    let j = opened-super s g o in
    let long = put-long s (geometry_view g) j.good k kept t put in (
      record { short = omega (arith, long, j.short); good = rw long j.good },
      rw (put-items s (geometry_view g) j.good k kept t put)
          (and-true (marker_good s (geometry_view g) && identifier_good (geometry_view g).edition s) (faultless (items_of s (geometry_view g))) (opened-sound s g o)).1,
    )

-- ---- in the tidied image the same entries stand
module _ (s : List ℕ) (g : Held) (o : Opened s g) where
  opens : Opens s (volume_of s (geometry_view g))
  opens = judge-opens s (volume_of s (geometry_view g)) o

  after : Opens (tidy_of s g) (settled_volume (volume_of s (geometry_view g)))
  after = tidied-opens s (volume_of s (geometry_view g)) opens

  pub tidied-opened : (t : List ℕ) → t ≡ tidy_of s g → Opened t g
  tidied-opened t e =
      rw e (opens-judge (tidy_of s g) (settled_volume (volume_of s (geometry_view g))) after
      ∙ ap (λ (is : List Item). accepted (record { geometry = geometry_view g; items = is })) after.items-are)

  pub reclaimed-put : (z : ℤ) (k : Geometry) → k ≡ least_sizes Deleted s (geometry_view g) z → (t u : List ℕ) → t ≡ tidy_of s g → u ≡ least_written t (geometry_view g) k → u ≡ reclaimed s (geometry_view g) z
  unfolding least_written reclaimed
  reclaimed-put z k is t u e f =
      let same : entries_of (items_of (tidy_of s g) (geometry_view g)) ≡ entries_of (items_of s (geometry_view g)) = ap entries_of (sym after.items-are) ∙ settled-entries (items_of s (geometry_view g)) in
      f ∙ rw (e, is, same)
