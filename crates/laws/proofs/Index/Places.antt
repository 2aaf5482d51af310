-- Where the items of a walk stand, and from an entry that was found to its place.
use Prim.Native.Nat.{ℕ, ◌+◌, ◌-◌, ◌*◌, ◌<◌}
use mathlib.Core.Path.{◌≡◌, refl, sym, ap, ◌∙◌}
use mathlib.Core.Bool.{Bool, true, false, not}
use mathlib.Core.List.{List, [], ◌∷◌, ◌++◌}
use mathlib.Core.Option.{some}
use native.Mathlib.Omega.{arith}
use lib.ListN.{drop}
use Rattle.rules.specs.Lists.{all, any, first, first_if}
use Rattle.rules.specs.Lists.Laws.{clash, and_both}
use Rattle.rules.specs.Editions.{Edition}
use Rattle.rules.specs.Index.{Entry, Item, unused, stale, entry, fault, item_at, entry_at, unusable_at, is_fault, followed, entries_of, slot_bytes}
use Rattle.rules.specs.Index.Walk.{walk_all, walk_step, slots_of}
use Rattle.rules.specs.Writing.{item_slot}
use Rattle.laws.proofs.Lists.Every.{none_passes, any_none, all_join}
use Rattle.laws.proofs.Lists.Parts.{cons_tail, nil-append, some_same, none-some}
use Rattle.laws.proofs.Index.Items.{slots_in, NoFault, item_by}
use Rattle.laws.proofs.Index.Walks.{Split, walk_split, walk-some, walk_first, walk-rest}

-- ---- a walk ends at a fault
pub followed-end : (i : Item) (r : ℕ → List Item) → is_fault i ≡ true → followed i r ≡ i ∷ []
unfolding followed is_fault
followed-end (unused k) r e = clash (sym e)
followed-end (stale k n) r e = clash (sym e)
followed-end (entry x) r e = clash (sym e)
followed-end (fault k) r e = refl

-- an item with something behind it is no fault
early-sound : (ed : Edition) (left k : ℕ) (a : List ℕ) (y x : Item) (xs post : List Item) → walk_all ed left k a ≡ y ∷ (xs ++ (x ∷ post)) → is_fault y ≡ false
early-sound ed left k a y x xs post e = by (is_fault y) refl
  where
    by : (t : Bool) → is_fault y ≡ t → t ≡ false
    by false f = refl
    by true f =
        let here : item_at ed left k a ≡ y = walk_first ed left k a y (xs ++ (x ∷ post)) e in
        let end : walk_all ed left k a ≡ y ∷ [] = walk_step ed left k a (walk-some ed left k a y (xs ++ (x ∷ post)) e) ∙ rw here (followed-end y _ f) in
        nil-append xs x post (cons_tail (sym end ∙ e))

-- so what stands before an item has none
pub before-sound : (ed : Edition) (left k : ℕ) (a : List ℕ) (pre : List Item) (x : Item) (post : List Item) → walk_all ed left k a ≡ pre ++ (x ∷ post) → NoFault pre
unfolding all
before-sound ed left k a [] x post e = refl
before-sound ed left k a (y ∷ pre) x post e =
    let f : is_fault y ≡ false = early-sound ed left k a y x pre post e in
    and_both (not (is_fault y)) (all (λ i. not (is_fault i)) pre) (rw f)
    (before-sound ed (left - slots_of y) (k + slots_of y) (drop (slot_bytes * slots_of y) a) pre x post (walk-rest ed left k a y (pre ++ (x ∷ post)) e f))

-- ---- the place of an item
pub item-slot : (ed : Edition) (left k : ℕ) (a : List ℕ) → item_slot (item_at ed left k a) ≡ k
unfolding item_slot entry_at unusable_at
item-slot ed left k a = item_by ed left k a (λ i. item_slot i ≡ k) (λ o r h g. refl) (λ o r u h. refl) (λ o r u s. refl) (λ o. refl) refl

module _ (ed : Edition) (left k : ℕ) (a : List ℕ) (pre : List Item) (x : Item) (post : List Item) (e : walk_all ed left k a ≡ pre ++ (x ∷ post)) where
  parts : Split ed left k a pre (x ∷ post)
  parts = walk_split ed left k a pre (x ∷ post) e (before-sound ed left k a pre x post e)

  pub place-within : slots_in pre < left
  place-within = omega (arith, walk-some ed _ _ _ x post parts.back)

  -- the item is what is read there
  pub item-there : item_at ed (left - slots_in pre) (k + slots_in pre) (drop (slot_bytes * slots_in pre) a) ≡ x
  item-there = walk_first ed _ _ _ x post parts.back

  pub slot-there : item_slot x ≡ k + slots_in pre
  slot-there = sym (ap item_slot item-there) ∙ item-slot ed (left - slots_in pre) (k + slots_in pre) (drop (slot_bytes * slots_in pre) a)

-- ---- entries
pub entries_of-append : (xs ys : List Item) → entries_of (xs ++ ys) ≡ entries_of xs ++ entries_of ys
unfolding entries_of
entries_of-append [] ys = refl
entries_of-append (unused k ∷ xs) ys = entries_of-append xs ys
entries_of-append (stale k n ∷ xs) ys = entries_of-append xs ys
entries_of-append (entry e ∷ xs) ys = ap (λ (es : List Entry). e ∷ es) (entries_of-append xs ys)
entries_of-append (fault k ∷ xs) ys = entries_of-append xs ys

-- the first entry that passes, among the items
pub record Found (p : Entry → Bool) (is : List Item) (e : Entry) : Type 0 where
  pub pre : List Item
  pub post : List Item
  pub split : is ≡ pre ++ (entry e ∷ post)
  pub before : any p (entries_of pre) ≡ false
  pub passes : p e ≡ true

-- one item more in front, of which no entry passes
found-later : (p : Entry → Bool) (i : Item) (is : List Item) (e : Entry) → any p (entries_of (i ∷ [])) ≡ false → Found p is e → Found p (i ∷ is) e
found-later p i is e n f = record {
  pre = i ∷ f.pre;
  post = f.post;
  split = ap (λ (js : List Item). i ∷ js) f.split;
  before = ap (any p) (entries_of-append (i ∷ []) f.pre) ∙ any_none p _ (all_join _ (entries_of (i ∷ [])) (entries_of f.pre) (none_passes p _ n) (none_passes p _ f.before));
  passes = f.passes;
}

pub first-split : (p : Entry → Bool) (is : List Item) (e : Entry) → first p (entries_of is) ≡ some e → Found p is e
unfolding entries_of first first_if any
first-split p [] e h = none-some e h
first-split p (unused k ∷ is) e h = found-later p (unused k) is e refl (first-split p is e h)
first-split p (stale k n ∷ is) e h = found-later p (stale k n) is e refl (first-split p is e h)
first-split p (fault k ∷ is) e h = found-later p (fault k) is e refl (first-split p is e h)
first-split p (entry x ∷ is) e h = by (p x) refl (λ g. first-split p is e g)
  where
    by : (t : Bool) → p x ≡ t → (first p (entries_of is) ≡ some e → Found p is e) → Found p (entry x ∷ is) e
    by true q rec =
        let s : x ≡ e = some_same x e (rw q at h) in
        record {
          pre = [];
          post = is;
          split = ap (λ (y : Entry). entry y ∷ is) s;
          before = refl;
          passes = ap p (sym s) ∙ q;
        }
    by false q rec = found-later p (entry x) is e (rw q) (rec (rw q at h))
