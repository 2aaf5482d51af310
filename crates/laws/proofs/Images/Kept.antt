-- What a write keeps of an image, by where it lies: the super-block, the index area, the bytes between them. Assumes nothing.
use Prim.Native.Nat.{ℕ, ◌+◌, ◌≤◌}
use mathlib.Core.Path.{◌≡◌, refl, sym, ◌∙◌}
use mathlib.Core.List.{List}
use mathlib.Core.Logic.{◌⊎◌, inl, inr}
use native.Mathlib.Omega.{arith}
use lib.ListN.{length, drop}
use Rattle.rules.specs.Lists.{part}
use Rattle.rules.specs.Editions.{super_block_at}
use Rattle.rules.specs.Editions.Laws.{super-bounds}
use Rattle.rules.specs.SuperBlock.{Geometry}
use Rattle.rules.specs.Index.{items_of, slot_at, slot_bytes, identifier_at}
use Rattle.rules.specs.Refusals.{accepted, Volume, judge}
use Rattle.rules.specs.Refusals.Laws.{GoodSuper, judge-super, super-judge, judge-opens, opens-judge, opens-super, super-opens}
use Rattle.rules.proofs.Refusals.Laws.{judge_geometry-same}
use Rattle.laws.proofs.Lists.Spans.{SameBut, but-part, but-drop, drop-from, part-from}
use Rattle.laws.proofs.Index.Slots.{slot-at, slot-first, identifier-at, items-same}
use Rattle.laws.proofs.Index.Ends.{ends_good, ends-good, good-ends, ends_same}

-- ---- what is judged of the super-block and of the index area depends on their bytes
pub super-same : (s t : List ℕ) (g : Geometry) → length t ≡ length s → part t (super_block_at g.edition) 42 ≡ part s (super_block_at g.edition) 42 → GoodSuper s g → GoodSuper t g
super-same s t g long same o = judge-super t g (judge_geometry-same t s g.edition long same o.edition-is ∙ super-judge s g o)

module _ (s t : List ℕ) (g h : Geometry) (low : slot_bytes ≤ g.index_bytes) (long : length t ≡ length s) (edition : h.edition ≡ g.edition) (index : h.index_bytes ≡ g.index_bytes) (same : drop (slot_at s g 0) t ≡ drop (slot_at s g 0) s) where
  pub area-items : items_of t h ≡ items_of s g
  area-items = items-same s t g h long index edition (drop-from s t (slot_at s g 0) same (slot_at s g 1) (omega (arith, slot-at s g 0, slot-at s g 1)))

  pub area-ends : ends_good t h ≡ ends_good s g
  area-ends =
      ends_same s t g h long edition index (part-from s t (slot_at s g 0) same (slot_at s g 0) slot_bytes (omega arith))
      (drop-from s t (slot_at s g 0) same (identifier_at s) (omega (arith, slot-first s g, identifier-at s)))

-- so an image of the same length, with the super-block and the index area of one that opens, opens as the same volume
pub reopens : (s t : List ℕ) (v : Volume) → judge s ≡ accepted v → length t ≡ length s
    → part t (super_block_at v.geometry.edition) 42 ≡ part s (super_block_at v.geometry.edition) 42
    → drop (slot_at s v.geometry 0) t ≡ drop (slot_at s v.geometry 0) s
    → judge t ≡ accepted v
reopens s t v opens long super same =
    let o = judge-opens s v opens in
    let g = v.geometry in
    let low : slot_bytes ≤ g.index_bytes = omega (arith, o.geometry-good.index-low) in
    let e = ends-good s g v.items o.index-sound in
    opens-judge t v
    (super-opens t v (super-same s t g long super (opens-super s v o)) (o.items-are ∙ sym (area-items s t g g low long refl refl same))
    (good-ends t g v.items (area-ends s t g g low long refl refl same ∙ e.0) e.1)
    o.regions-sound o.paths-sound)

-- ---- by where a write lies
-- the two images agree between the super-block and the index area: in what files may hold
abbrev pub Between : List ℕ → List ℕ → Geometry → Type 0
Between s t g = (a n : ℕ) → 512 ≤ a → a + n + g.index_bytes ≤ length s → part t a n ≡ part s a n

pub between-then : (s t u : List ℕ) (g : Geometry) → length t ≡ length s → Between s t g → Between t u g → Between s u g
between-then s t u g long p q a n low high = q a n low (omega arith) ∙ p a n low high

module _ {a b : ℕ} {s t : List ℕ} (k : SameBut a b s t) where
  pub super-kept : (g : Geometry) → 512 ≤ a → GoodSuper s g → GoodSuper t g
  super-kept g low o = super-same s t g k.long (but-part k (super_block_at g.edition) 42 (inl (omega (arith, super-bounds g.edition)))) o

  pub index_kept : (g : Geometry) → b + g.index_bytes ≤ length s → drop (slot_at s g 0) t ≡ drop (slot_at s g 0) s
  index_kept g high = but-drop k (slot_at s g 0) (omega (arith, slot-first s g))

  pub between-kept : (g : Geometry) → (b ≤ 512) ⊎ (length s ≤ a + g.index_bytes) → Between s t g
  between-kept g (inl h) p n low high = but-part k p n (inr (omega arith))
  between-kept g (inr h) p n low high = but-part k p n (inl (omega arith))
