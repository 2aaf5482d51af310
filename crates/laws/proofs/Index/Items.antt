-- Laws of one item of the walk: what it is, by its bytes, and that a tidy item needs its own slots only.
use Prim.Native.Nat.{ℕ, ◌+◌, ◌≤◌, ◌<◌}
use mathlib.Core.Path.{◌≡◌, refl, sym, ap, ◌∙◌}
use mathlib.Core.Bool.{Bool, true, false, ◌&&◌, not}
use mathlib.Core.List.{List, [], ◌∷◌, ◌++◌}
use native.Mathlib.Omega.{arith}
use lib.ListN.{take}
use lib.Dec.{eqb, leb}
use borrow.Author.Tests.{leb-true, leb-false, eqb-true, eqb-false, not-true}
use Rattle.rules.specs.Lists.{pick, all, sum}
use Rattle.rules.specs.Lists.Laws.{clash, and-true, and_both, all_append}
use Rattle.rules.specs.Fields.{byte_at}
use Rattle.rules.specs.Editions.{Edition, sum_good, keeps_deleted}
use Rattle.rules.specs.Index.{Entry, Item, unused, stale, entry, fault, item_at, run_at, run_whole, unusable_item, stale_slots, stale_type, deleted_type, entry_at, unusable_at, is_fault, followed, run_slots, run_field, name_good, name_field, run_type, stray_type, type_unusable, slot_bytes}
use Rattle.rules.specs.Index.Walk.{slots_of}
use Rattle.rules.specs.Index.Laws.{keeps-fresh}
use Rattle.rules.specs.Index.Items.{item-stale, item-run, item-unusable, item-unused, unusable-good, whole-fits, fits_whole, stale-fits}
use Rattle.laws.proofs.Lists.Parts.{sum-append, all-parts}
use Rattle.laws.proofs.Lists.Every.{pick-by}

-- the slots of items
unfoldable pub slots_in : List Item → ℕ
slots_in is = sum slots_of is

-- no item is a fault
abbrev pub NoFault : List Item → Type 0
NoFault is = all (λ i. not (is_fault i)) is ≡ true

-- neither a fault nor left over: an item that its own slots alone make what it is. What is left over of a deleted run may be a whole run
-- or one slot by what stands behind that slot.
unfoldable pub is_tidy : Item → Bool
is_tidy (unused k) = true
is_tidy (stale k n) = false
is_tidy (entry e) = true
is_tidy (fault k) = false

abbrev pub IsTidy : List Item → Type 0
IsTidy is = all is_tidy is ≡ true

-- ---- what stands at a place
-- each way that an item can come about
run_by : (ed : Edition) (left k : ℕ) (a : List ℕ) (P : Item → Type 0)
    → (run_whole ed left a ≡ true → name_good (name_field ed a) ≡ true → P (entry (entry_at ed k a)))
    → P (fault k)
    → P (run_at ed left k a)
unfolding run_at
run_by ed left k a P run bad =
    pick-by P (run_whole ed left a && name_good (name_field ed a)) _ _
    (λ e. let h = and-true (run_whole ed left a) (name_good (name_field ed a)) e in
    run h.0 h.1)
    (λ e. bad)

unusable-by : (ed : Edition) (k : ℕ) (a : List ℕ) (P : Item → Type 0) → (sum_good ed (take slot_bytes a) ≡ true → P (entry (unusable_at ed k a))) → P (fault k) → P (unusable_item ed k a)
unfolding unusable_item
unusable-by ed k a P unusable bad = pick-by P (sum_good ed (take slot_bytes a)) _ _ unusable (λ e. bad)

pub item_by : (ed : Edition) (left k : ℕ) (a : List ℕ) (P : Item → Type 0)
    → (stale_type ed (byte_at a 0) ≡ false → run_type (byte_at a 0) ≡ true → run_whole ed left a ≡ true → name_good (name_field ed a) ≡ true → P (entry (entry_at ed k a)))
    → (stale_type ed (byte_at a 0) ≡ false → run_type (byte_at a 0) ≡ false → byte_at a 0 ≡ type_unusable → sum_good ed (take slot_bytes a) ≡ true → P (entry (unusable_at ed k a)))
    → (stale_type ed (byte_at a 0) ≡ false → run_type (byte_at a 0) ≡ false → eqb (byte_at a 0) type_unusable ≡ false → stray_type (byte_at a 0) ≡ false → P (unused k))
    → (stale_type ed (byte_at a 0) ≡ true → P (stale k (stale_slots ed left a)))
    → P (fault k)
    → P (item_at ed left k a)
unfolding item_at
item_by ed left k a P run unusable free over bad =
    pick-by P (stale_type ed (byte_at a 0)) _ _ over
    (λ o. pick-by P (run_type (byte_at a 0)) _ _ (λ r. run_by ed left k a P (run o r) bad)
    (λ r. pick-by P (eqb (byte_at a 0) type_unusable) _ _ (λ u. unusable-by ed k a P (unusable o r (eqb-true (byte_at a 0) type_unusable u)) bad)
    (λ u. pick-by P (stray_type (byte_at a 0)) _ _ (λ s. bad) (λ s. free o r u s))))

-- ---- an item that is no fault
-- what is left over of a deleted run is whole with fewer slots left that hold it, and else one slot all the same
stale-fewer : (ed : Edition) (left m : ℕ) (a : List ℕ) → m ≤ left → stale_slots ed left a ≤ m → stale_slots ed m a ≡ stale_slots ed left a
unfolding stale_slots run_whole pick
stale-fewer ed left m a less = by (deleted_type (byte_at a 0)) (sum_good ed (run_field ed a)) (leb (run_slots ed a) left) refl (leb (run_slots ed a) m) refl
  where
    by : (d g x : Bool) → leb (run_slots ed a) left ≡ x → (y : Bool) → leb (run_slots ed a) m ≡ y → pick (d && (x && g)) (run_slots ed a) 1 ≤ m
        → pick (d && (y && g)) (run_slots ed a) 1 ≡ pick (d && (x && g)) (run_slots ed a) 1
    by false g x p y q l = refl
    by true false true p true q l = refl
    by true false true p false q l = refl
    by true false false p true q l = refl
    by true false false p false q l = refl
    by true true true p true q l = refl
    by true true true p false q l = absurd (omega (arith, leb-false (run_slots ed a) m q))
    by true true false p true q l = absurd (omega (arith, leb-false (run_slots ed a) left p, leb-true (run_slots ed a) m q))
    by true true false p false q l = refl

module _ (ed : Edition) (left k : ℕ) (a : List ℕ) where
  pub slots-within : 0 < left → is_fault (item_at ed left k a) ≡ false → slots_of (item_at ed left k a) ≤ left
  unfolding is_fault slots_of entry_at unusable_at
  slots-within more =
      item_by ed left k a (λ i. is_fault i ≡ false → slots_of i ≤ left)
      (λ o r h g e. (whole-fits ed left a h).0) (λ o r u h e. omega arith) (λ o r u s e. omega arith) (λ o e. stale-fits ed left a more) (λ e. clash e)

  held-run : (m : ℕ) → stale_type ed (byte_at a 0) ≡ false → run_type (byte_at a 0) ≡ true → run_whole ed left a ≡ true → name_good (name_field ed a) ≡ true → run_slots ed a ≤ m
      → item_at ed m k a ≡ entry (entry_at ed k a)
  held-run m o r h g l = item-run ed m k a o r (fits_whole ed m a l (whole-fits ed left a h).1) g

  held-unusable : (m : ℕ) → stale_type ed (byte_at a 0) ≡ false → run_type (byte_at a 0) ≡ false → byte_at a 0 ≡ type_unusable → sum_good ed (take slot_bytes a) ≡ true
      → item_at ed m k a ≡ entry (unusable_at ed k a)
  held-unusable m o r u h = item-unusable ed m k a o r u ∙ unusable-good ed k a h

  held-unused : (m : ℕ) → stale_type ed (byte_at a 0) ≡ false → run_type (byte_at a 0) ≡ false → eqb (byte_at a 0) type_unusable ≡ false → stray_type (byte_at a 0) ≡ false
      → item_at ed m k a ≡ unused k
  held-unused m o r u s = item-unused ed m k a o r (eqb-false (byte_at a 0) type_unusable u) s

  -- a tidy one is the same with any number of slots left that holds it
  pub item-held : (m : ℕ) → is_tidy (item_at ed left k a) ≡ true → slots_of (item_at ed left k a) ≤ m → item_at ed m k a ≡ item_at ed left k a
  unfolding is_tidy slots_of entry_at unusable_at
  item-held m =
      item_by ed left k a (λ i. is_tidy i ≡ true → slots_of i ≤ m → item_at ed m k a ≡ i)
      (λ o r h g e l. held-run m o r h g l) (λ o r u h e l. held-unusable m o r u h) (λ o r u s e l. held-unused m o r u s) (λ o e l. clash (sym e)) (λ e l. clash (sym e))

  -- any is with fewer slots left that hold it
  pub item-fewer : (m : ℕ) → m ≤ left → is_fault (item_at ed left k a) ≡ false → slots_of (item_at ed left k a) ≤ m → item_at ed m k a ≡ item_at ed left k a
  unfolding is_fault slots_of entry_at unusable_at
  item-fewer m less =
      item_by ed left k a (λ i. is_fault i ≡ false → slots_of i ≤ m → item_at ed m k a ≡ i)
      (λ o r h g e l. held-run m o r h g l) (λ o r u h e l. held-unusable m o r u h) (λ o r u s e l. held-unused m o r u s)
      (λ o e l. item-stale ed m k a o ∙ ap (stale k) (stale-fewer ed left m a less l)) (λ e l. clash e)

  -- an edition that keeps deleted entries has nothing left over
  pub keeps-item : keeps_deleted ed ≡ true → is_fault (item_at ed left k a) ≡ false → is_tidy (item_at ed left k a) ≡ true
  unfolding is_fault is_tidy
  keeps-item keeps =
      item_by ed left k a (λ i. is_fault i ≡ false → is_tidy i ≡ true)
      (λ o r h g e. refl) (λ o r u h e. refl) (λ o r u s e. refl) (λ o e. clash (sym o ∙ keeps-fresh ed (byte_at a 0) keeps)) (λ e. clash e)

-- ---- items in a row
pub slots_in-nil : slots_in [] ≡ 0
unfolding slots_in sum
slots_in-nil = refl

pub slots_in-cons : (i : Item) (is : List Item) → slots_in (i ∷ is) ≡ slots_of i + slots_in is
unfolding slots_in sum
slots_in-cons i is = refl

pub slots_in-append : (xs ys : List Item) → slots_in (xs ++ ys) ≡ slots_in xs + slots_in ys
unfolding slots_in
slots_in-append xs ys = sum-append slots_of xs ys

pub no_fault-cons : (i : Item) (is : List Item) → NoFault (i ∷ is) → (is_fault i ≡ false) × NoFault is
unfolding all
no_fault-cons i is e = let h = and-true (not (is_fault i)) (all (λ j. not (is_fault j)) is) e in (not-true (is_fault i) h.0, h.1)

pub no_fault-swap : (pre mid mid' post : List Item) → NoFault (pre ++ (mid ++ post)) → NoFault mid' → NoFault (pre ++ (mid' ++ post))
no_fault-swap pre mid mid' post s n =
    let h₁ = all-parts (λ i. not (is_fault i)) pre (mid ++ post) s in
    let h₂ = all-parts (λ i. not (is_fault i)) mid post h₁.1 in
    all_append (λ i. not (is_fault i)) pre (mid' ++ post) ∙ rw h₁.0 (all_append (λ i. not (is_fault i)) mid' post ∙ rw (n, h₂.1))

-- ---- tidy items
pub tidy-cons : (i : Item) (is : List Item) → IsTidy (i ∷ is) → (is_tidy i ≡ true) × IsTidy is
unfolding all
tidy-cons i is e = and-true (is_tidy i) (all is_tidy is) e

pub tidy-item : (i : Item) → is_tidy i ≡ true → is_fault i ≡ false
unfolding is_tidy is_fault
tidy-item (unused k) e = refl
tidy-item (stale k n) e = refl
tidy-item (entry x) e = refl
tidy-item (fault k) e = clash (sym e)

pub tidy-sound : (is : List Item) → IsTidy is → NoFault is
unfolding all
tidy-sound [] e = refl
tidy-sound (i ∷ is) e =
    let h = tidy-cons i is e in
    and_both (not (is_fault i)) (all (λ j. not (is_fault j)) is) (rw (tidy-item i h.0)) (tidy-sound is h.1)

pub tidy-swap : (pre mid mid' post : List Item) → IsTidy (pre ++ (mid ++ post)) → IsTidy mid' → IsTidy (pre ++ (mid' ++ post))
tidy-swap pre mid mid' post s n =
    let h₁ = all-parts is_tidy pre (mid ++ post) s in
    let h₂ = all-parts is_tidy mid post h₁.1 in
    all_append is_tidy pre (mid' ++ post) ∙ rw h₁.0 (all_append is_tidy mid' post ∙ rw (n, h₂.1))

-- an entry alone
pub one-sound : (e : Entry) → NoFault (entry e ∷ [])
unfolding all is_fault
one-sound e = refl

pub one-tidy : (e : Entry) → IsTidy (entry e ∷ [])
unfolding all is_tidy
one-tidy e = refl

pub one-slots : (e : Entry) → slots_in (entry e ∷ []) ≡ e.slots
unfolding slots_of
one-slots e = slots_in-cons (entry e) [] ∙ omega (arith, slots_in-nil)

-- an item that is no fault is followed by what comes after its slots
pub followed-on : (i : Item) (r : ℕ → List Item) → is_fault i ≡ false → followed i r ≡ i ∷ r (slots_of i)
unfolding followed slots_of is_fault
followed-on (unused k) r e = refl
followed-on (stale k n) r e = refl
followed-on (entry x) r e = refl
followed-on (fault k) r e = clash e
