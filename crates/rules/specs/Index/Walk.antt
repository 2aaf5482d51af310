-- Laws of the walk: one step at a time, whatever bounds the steps, and what it depends on.
use Rattle.std.specs.Prelude.{ℕ, zero, suc, ◌+◌, ◌-◌, ◌*◌, ◌≤◌, ◌<◌, ◌≡◌, refl, Bool, true, false, List, [], ◌∷◌, drop}
use Rattle.std.proofs.Common.{ap, ◌∙◌, arith, ne_eqb}
use Rattle.rules.specs.Lists.{pick}
use Rattle.rules.specs.Editions.{Edition}
use Rattle.rules.specs.Index.{Entry, Item, unused, stale, entry, fault, item_at, run_at, unusable_item, stale_slots, entry_at, unusable_at, followed, walk, WalkEquation, StepsSuffice, run_slots, slot_bytes}
unfoldable pub use Rattle.rules.specs.Index.{walk_all}

-- the slots of an item
unfoldable pub slots_of : Item → ℕ
slots_of (unused k) = 1
slots_of (stale k n) = n
slots_of (entry e) = e.slots
slots_of (fault k) = 1

pub pick-both : {A : Type 0} (P : A → Type 0) (b : Bool) (x y : A) → P x → P y → P (pick b x y)
unfolding pick
pick-both P true x y p q = p
pick-both P false x y p q = q

-- an item has a slot at least
run-pos : (ed : Edition) (k : ℕ) (a : List ℕ) → 1 ≤ slots_of (entry (entry_at ed k a))
unfolding slots_of entry_at run_slots
run-pos ed k a = omega arith

one-slot : (ed : Edition) (k : ℕ) (a : List ℕ) → (1 ≤ slots_of (entry (unusable_at ed k a))) × (1 ≤ slots_of (fault k)) × (1 ≤ slots_of (unused k))
unfolding slots_of unusable_at
one-slot ed k a = (omega arith, omega arith, omega arith)

-- of what is left over there is one at least
pub stale-pos : (ed : Edition) (left : ℕ) (a : List ℕ) → 1 ≤ stale_slots ed left a
unfolding stale_slots run_slots
stale-pos ed left a = pick-both (λ n. 1 ≤ n) _ _ _ (omega arith) (omega arith)

pub slots-pos : (ed : Edition) (left k : ℕ) (a : List ℕ) → 1 ≤ slots_of (item_at ed left k a)
unfolding item_at run_at unusable_item slots_of
slots-pos ed left k a =
    let P : Item → Type 0 = λ i. 1 ≤ slots_of i in
    let h = one-slot ed k a in
    pick-both P _ _ _ (stale-pos ed left a)
    (pick-both P _ _ _
    (pick-both P _ _ _ (run-pos ed k a) h.1)
    (pick-both P _ _ _ (pick-both P _ _ _ h.0 h.1) (pick-both P _ _ _ h.1 h.2)))

-- what follows matters only behind the item's own slots
pub followed-ext : (i : Item) (r q : ℕ → List Item) → r (slots_of i) ≡ q (slots_of i) → followed i r ≡ followed i q
unfolding followed slots_of
followed-ext (unused k) r q e = ap (λ is. unused k ∷ is) e
followed-ext (stale k n) r q e = ap (λ is. stale k n ∷ is) e
followed-ext (entry x) r q e = ap (λ is. entry x ∷ is) e
followed-ext (fault k) r q e = refl

-- any number of steps that suffices gives the same
enough : (ed : Edition) (f g left k : ℕ) (a : List ℕ) → left ≤ f → left ≤ g → walk ed f left k a ≡ walk ed g left k a
unfolding walk
enough ed zero zero left k a p q = refl
enough ed zero (suc g) zero k a p q = refl
enough ed zero (suc g) (suc left) k a p q = absurd (omega arith)
enough ed (suc f) zero zero k a p q = refl
enough ed (suc f) zero (suc left) k a p q = absurd (omega arith)
enough ed (suc f) (suc g) zero k a p q = refl
enough ed (suc f) (suc g) (suc left) k a p q =
    let n : ℕ = slots_of (item_at ed (suc left) k a) in
    let h : 1 ≤ n = slots-pos ed (suc left) k a in
    followed-ext (item_at ed (suc left) k a) _ _ (enough ed f g (suc left - n) (k + n) (drop (slot_bytes * n) a) (omega arith) (omega arith))

pub steps-suffice : StepsSuffice
unfolding walk_all
steps-suffice ed steps left k a h = enough ed steps left left k a h (omega arith)

-- ---- a step
pub walk_none : (ed : Edition) (k : ℕ) (a : List ℕ) → walk_all ed 0 k a ≡ []
unfolding walk_all walk
walk_none ed k a = refl

pub walk_step : (ed : Edition) (left k : ℕ) (a : List ℕ) → 0 < left
    → walk_all ed left k a ≡ followed (item_at ed left k a) (λ n. walk_all ed (left - n) (k + n) (drop (slot_bytes * n) a))
unfolding walk_all walk
walk_step ed zero k a h = absurd (omega arith)
walk_step ed (suc left) k a h =
    let n : ℕ = slots_of (item_at ed (suc left) k a) in
    let p : 1 ≤ n = slots-pos ed (suc left) k a in
    followed-ext (item_at ed (suc left) k a) _ _ (steps-suffice ed left (suc left - n) (k + n) (drop (slot_bytes * n) a) (omega arith))

pub followed-head : (i : Item) (r : ℕ → List Item) → (is : List Item) × (followed i r ≡ i ∷ is)
unfolding followed
followed-head (unused k) r = (r 1, refl)
followed-head (stale k n) r = (r n, refl)
followed-head (entry x) r = (r x.slots, refl)
followed-head (fault k) r = ([], refl)

-- a walk begins with what stands at its first slot
pub walk-head : (ed : Edition) (left k : ℕ) (a : List ℕ) → 0 < left → (is : List Item) × (walk_all ed left k a ≡ item_at ed left k a ∷ is)
walk-head ed left k a more = let (is, e) = followed-head (item_at ed left k a) _ in (is, walk_step ed left k a more ∙ e)

pub walk-equation : WalkEquation
unfolding pick
walk-equation ed zero k a = walk_none ed k a
walk-equation ed (suc left) k a = rw (ne_eqb (suc left) 0 (λ e. absurd (omega arith))) (walk_step ed (suc left) k a (omega arith))

-- by what stands at the slot
module _ (ed : Edition) (left k : ℕ) (a : List ℕ) (more : 0 < left) where
  pub walk-unused : (j : ℕ) → item_at ed left k a ≡ unused j → walk_all ed left k a ≡ unused j ∷ walk_all ed (left - 1) (k + 1) (drop slot_bytes a)
  unfolding followed
  walk-unused j e = walk_step ed left k a more ∙ rw e

  pub walk-entry : (x : Entry) → item_at ed left k a ≡ entry x → walk_all ed left k a ≡ entry x ∷ walk_all ed (left - x.slots) (k + x.slots) (drop (slot_bytes * x.slots) a)
  unfolding followed
  walk-entry x e = walk_step ed left k a more ∙ rw e

  pub walk-stale : (j n : ℕ) → item_at ed left k a ≡ stale j n → walk_all ed left k a ≡ stale j n ∷ walk_all ed (left - n) (k + n) (drop (slot_bytes * n) a)
  unfolding followed
  walk-stale j n e = walk_step ed left k a more ∙ rw e

  pub walk-fault : (j : ℕ) → item_at ed left k a ≡ fault j → walk_all ed left k a ≡ fault j ∷ []
  unfolding followed
  walk-fault j e = walk_step ed left k a more ∙ rw e
