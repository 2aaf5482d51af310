-- Where slots lie, and that the items are what stands between the start marker and the volume identifier. Assumes nothing.
-- With Ends.antt and the laws of one slot in this folder: what the layout says, opened here and used by its laws elsewhere.
use Prim.Native.Nat.{ℕ, ◌+◌, ◌-◌, ◌*◌, ◌/◌}
use mathlib.Core.Path.{◌≡◌, refl, sym, ap, ◌∙◌}
use mathlib.Core.List.{List, []}
use native.Mathlib.Omega.{arith}
use lib.ListN.{length, drop}
use lib.Seq.{drop-drop}
use Rattle.rules.specs.SuperBlock.{Geometry}
use Rattle.rules.specs.Index.{items_of, inner_slots, slot_at, slot_bytes, identifier_at}
use Rattle.rules.specs.Index.Walk.{walk_all, walk_none}

module _ (s : List ℕ) where
  pub slot-at : (g : Geometry) (k : ℕ) → slot_at s g k ≡ length s - g.index_bytes + slot_bytes * k
  unfolding slot_at
  slot-at g k = refl

  pub slot-first : (g : Geometry) → slot_at s g 0 ≡ length s - g.index_bytes
  slot-first g = omega (arith, slot-at g 0)

  pub identifier-at : identifier_at s ≡ length s - slot_bytes
  unfolding identifier_at
  identifier-at = refl

  pub items-walk : (g : Geometry) → items_of s g ≡ walk_all g.edition (inner_slots g) 1 (drop (slot_at s g 1) s)
  unfolding items_of walk_all
  items-walk g = refl

pub inner-slots : (g : Geometry) → inner_slots g ≡ g.index_bytes / 64 - 2
unfolding inner_slots
inner-slots g = refl

-- an index of 128 bytes has no slot between its ends
pub no_items : (s : List ℕ) (g : Geometry) → g.index_bytes ≡ 128 → items_of s g ≡ []
no_items s g i = let z : inner_slots g ≡ 0 = omega (arith, inner-slots g) in items-walk s g ∙ rw z (walk_none g.edition 1 _)

-- items are what is read from slot 1 on, so of the index area
pub items-from : (s t : List ℕ) (g h : Geometry) → h.edition ≡ g.edition → h.index_bytes ≡ g.index_bytes → drop (slot_at t h 1) t ≡ drop (slot_at s g 1) s → items_of t h ≡ items_of s g
unfolding items_of inner_slots
items-from s t g h edition index same = rw (same, edition, index)

pub items-area : (s t : List ℕ) (g : Geometry) → drop (slot_at t g 0) t ≡ drop (slot_at s g 0) s → items_of t g ≡ items_of s g
items-area s t g same =
    let next : (x : List ℕ) → slot_at x g 1 ≡ slot_at x g 0 + slot_bytes = λ x. omega (arith, slot-at x g 0, slot-at x g 1) in
    let on : (x : List ℕ) → drop (slot_at x g 1) x ≡ drop slot_bytes (drop (slot_at x g 0) x) =
    λ x. ap (λ (n : ℕ). drop n x) (next x) ∙ sym (drop-drop slot_bytes (slot_at x g 0) x) in
    items-from s t g g refl refl (on t ∙ ap (drop slot_bytes) same ∙ sym (on s))

-- a place depends on the image's length and the index area's size
module _ (s t : List ℕ) (g h : Geometry) (long : length t ≡ length s) (index : h.index_bytes ≡ g.index_bytes) where
  pub slot_same : (k : ℕ) → slot_at t h k ≡ slot_at s g k
  unfolding slot_at
  slot_same k = rw (long, index)

  pub items-same : h.edition ≡ g.edition → drop (slot_at s g 1) t ≡ drop (slot_at s g 1) s → items_of t h ≡ items_of s g
  items-same edition same = items-from s t g h edition index (rw (slot_same 1) same)
