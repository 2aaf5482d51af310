-- Whatever is at most m for each slot of an entry is at most m for each slot of a walk, all entries together. Assumes nothing.
use Prim.Native.Nat.{ℕ, zero, suc, ◌+◌, ◌-◌, ◌*◌, ◌≤◌, ◌<◌}
use mathlib.Core.Path.{◌≡◌, ap, ◌∙◌}
use mathlib.Core.List.{List}
use native.Mathlib.Nat.{mul-add}
use native.Mathlib.Omega.{arith}
use lib.ListN.{drop}
use lib.Seq.{get_or-drop}
use Rattle.rules.specs.Lists.{sum}
use Rattle.rules.specs.Fields.{Bytes}
use Rattle.rules.specs.Editions.{Edition}
use Rattle.rules.specs.Index.{Entry, Item, unused, stale, entry, fault, item_at, followed, walk, slot_bytes, entries_of}

pub bytes_drop : (n : ℕ) (s : List ℕ) → Bytes s → Bytes (drop n s)
bytes_drop n s h i = rw (get_or-drop n s i 0) (h (n + i))

-- of an item: it fits the slots that are left, and weighs at most m for each of its own
abbrev pub Weighs : (Entry → ℕ) → ℕ → ℕ → Item → Type 0
Weighs f m left (unused k) = Unit {0}
Weighs f m left (stale k n) = n ≤ left
Weighs f m left (entry e) = (e.slots ≤ left) × (f e ≤ m * e.slots)
Weighs f m left (fault k) = Unit {0}

split-left : (m n left : ℕ) → n ≤ left → m * left ≡ m * n + m * (left - n)
split-left m n left h = let e : left ≡ n + (left - n) = omega arith in ap (λ (x : ℕ). m * x) e ∙ mul-add m n (left - n)

module _ (ed : Edition) (f : Entry → ℕ) (m : ℕ) where
  sum-followed : (left : ℕ) (i : Item) (rest : ℕ → List Item) → 0 < left → Weighs f m left i
      → ((n : ℕ) → sum f (entries_of (rest n)) ≤ m * (left - n)) → sum f (entries_of (followed i rest)) ≤ m * left
  unfolding followed entries_of sum
  sum-followed left (unused k) rest more w r = omega (arith, r 1, split-left m 1 left (omega arith))
  sum-followed left (stale k n) rest more w r = omega (arith, r n, split-left m n left w)
  sum-followed left (entry e) rest more w r = omega (arith, r e.slots, split-left m e.slots left w.0, w.1)
  sum-followed left (fault k) rest more w r = omega arith

  module _ (each : (left k : ℕ) (a : List ℕ) → 0 < left → Bytes a → Weighs f m left (item_at ed left k a)) where
    pub sum-walk : (steps left k : ℕ) (a : List ℕ) → Bytes a → sum f (entries_of (walk ed steps left k a)) ≤ m * left
    unfolding walk entries_of sum
    sum-walk zero left k a b = omega arith
    sum-walk (suc steps) zero k a b = omega arith
    sum-walk (suc steps) (suc left) k a b =
        sum-followed (suc left) (item_at ed (suc left) k a) _ (omega arith) (each (suc left) k a (omega arith) b)
        (λ n. sum-walk steps (suc left - n) (k + n) (drop (slot_bytes * n) a) (bytes_drop (slot_bytes * n) a b))
