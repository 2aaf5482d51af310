-- Entries stand in slot order, and no two of them have one first slot.
use Prim.Native.Nat.{ℕ, zero, suc, ◌+◌, ◌-◌, ◌*◌, ◌≤◌, ◌<◌}
use mathlib.Core.Path.{◌≡◌}
use mathlib.Core.Bool.{false}
use mathlib.Core.List.{List, [], ◌∷◌, ◌++◌}
use native.Mathlib.Omega.{arith}
use lib.ListN.{drop}
use lib.Dec.{eqb}
use borrow.Author.Tests.{eqb-true}
use Rattle.rules.specs.Lists.{All}
use Rattle.rules.specs.Editions.{Edition}
use Rattle.rules.specs.SuperBlock.{Geometry}
use Rattle.rules.specs.Index.{Item, Entry, unused, stale, entry, fault, entry_at, unusable_at, item_at, followed, walk, items_of, entries_of, slot_bytes}
use Rattle.rules.specs.Index.Walk.{walk_all, slots_of, slots-pos}
use Rattle.laws.proofs.Lists.Every.{is_false}
use Rattle.laws.proofs.Index.Entries.{item-cases}

-- the first slots rise, from k on
abbrev pub Rising : ℕ → List Entry → Type 0
Rising k [] = Unit {0}
Rising k (e ∷ es) = (k ≤ e.slot) × Rising (e.slot + 1) es

pub rising-from : (k m : ℕ) (es : List Entry) → m ≤ k → Rising k es → Rising m es
rising-from k m [] h r = tt
rising-from k m (e ∷ es) h r = (omega (arith, r.0), r.1)

-- ---- of a walk
module _ (ed : Edition) where
  abbrev AtSlot : ℕ → Item → Type 0
  AtSlot k (unused j) = Unit {0}
  AtSlot k (stale j n) = Unit {0}
  AtSlot k (entry e) = e.slot ≡ k
  AtSlot k (fault j) = Unit {0}

  at_slot : (left k : ℕ) (a : List ℕ) → AtSlot k (item_at ed left k a)
  unfolding entry_at unusable_at
  at_slot left k a = item-cases ed left k a (AtSlot k) (λ e r. rw r.made) (λ e u. rw u.made) tt tt tt

  rising-followed : (k : ℕ) (i : Item) (rest : ℕ → List Item) → AtSlot k i → 1 ≤ slots_of i → ((n : ℕ) → Rising (k + n) (entries_of (rest n))) → Rising k (entries_of (followed i rest))
  unfolding followed entries_of slots_of
  rising-followed k (unused j) rest h p r = rising-from (k + 1) k (entries_of (rest 1)) (omega arith) (r 1)
  rising-followed k (stale j n) rest h p r = rising-from (k + n) k (entries_of (rest n)) (omega arith) (r n)
  rising-followed k (entry e) rest h p r = (omega (arith, h), rising-from (k + e.slots) (e.slot + 1) (entries_of (rest e.slots)) (omega (arith, h, p)) (r e.slots))
  rising-followed k (fault j) rest h p r = tt

  rising-walk : (steps left k : ℕ) (a : List ℕ) → Rising k (entries_of (walk ed steps left k a))
  unfolding walk entries_of
  rising-walk zero left k a = tt
  rising-walk (suc steps) zero k a = tt
  rising-walk (suc steps) (suc left) k a =
      rising-followed k (item_at ed (suc left) k a) _ (at_slot (suc left) k a) (slots-pos ed (suc left) k a)
      (λ n. rising-walk steps (suc left - n) (k + n) (drop (slot_bytes * n) a))

pub entries-rise : (s : List ℕ) (g : Geometry) → Rising 1 (entries_of (items_of s g))
unfolding items_of walk_all
entries-rise s g = rising-walk g.edition _ _ 1 _

-- ---- an entry and the others
differs : (m n : ℕ) → (m ≡ n → ⊥) → eqb m n ≡ false
differs m n h = is_false (eqb m n) (λ e. h (eqb-true m n e))

rising-at : (k : ℕ) (pre : List Entry) (e : Entry) (post : List Entry) → Rising k (pre ++ (e ∷ post)) → k ≤ e.slot
rising-at k [] e post r = r.0
rising-at k (f ∷ pre) e post r = omega (arith, r.0, rising-at (f.slot + 1) pre e post r.1)

rising-past : (k n : ℕ) (es : List Entry) → n < k → Rising k es → All (λ f. eqb f.slot n ≡ false) es
rising-past k n [] l r = tt
rising-past k n (f ∷ es) l r = (differs f.slot n (λ e. omega (arith, e, r.0, l)), rising-past (f.slot + 1) n es (omega (arith, r.0)) r.1)

-- no other has its slot
pub rising-alone : (k : ℕ) (pre : List Entry) (e : Entry) (post : List Entry) → Rising k (pre ++ (e ∷ post))
    → All (λ f. eqb f.slot e.slot ≡ false) pre × All (λ f. eqb f.slot e.slot ≡ false) post
rising-alone k [] e post r = (tt, rising-past (e.slot + 1) e.slot post (omega arith) r.1)
rising-alone k (f ∷ pre) e post r =
    let rest = rising-alone (f.slot + 1) pre e post r.1 in
    ((differs f.slot e.slot (λ d. omega (arith, d, rising-at (f.slot + 1) pre e post r.1)), rest.0), rest.1)
