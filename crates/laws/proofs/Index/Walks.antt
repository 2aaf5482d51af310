-- The walk over slots in two parts: put together, taken apart, and with a part written anew.
use Prim.Native.Nat.{ℕ, zero, suc, ◌+◌, ◌-◌, ◌*◌, ◌≤◌, ◌<◌}
use mathlib.Core.Path.{◌≡◌, refl, sym, ap, ap₂, ◌∙◌}
use mathlib.Core.Bool.{true, false, not}
use mathlib.Core.List.{List, [], ◌∷◌, ◌++◌, append-nil}
use native.Mathlib.Omega.{arith}
use native.Mathlib.Nat.{add-zero, zero-add, sub-zero}
use lib.ListN.{length, take, drop}
use lib.Seq.{drop-drop, drop_at, take-append-le}
use Rattle.rules.specs.Lists.{all}
use Rattle.rules.specs.Lists.Laws.{and_both}
use Rattle.rules.specs.Fields.{splice}
use Rattle.rules.specs.Editions.{Edition, keeps_deleted}
use Rattle.rules.specs.Index.{Item, item_at, is_fault, slot_bytes}
use Rattle.rules.specs.Index.Walk.{walk_all, walk_none, walk_step, walk-head, slots_of, slots-pos, followed-head}
use Rattle.rules.specs.Index.Frame.{walk_same}
use Rattle.laws.proofs.Lists.Parts.{cons_head, cons_tail, nil-cons, all-parts}
use Rattle.laws.proofs.Lists.Spans.{take-splice, drop-splice}
use Rattle.laws.proofs.Index.Items.{slots_in, slots_in-nil, slots_in-cons, NoFault, no_fault-cons, is_tidy, IsTidy, keeps-item, tidy-cons, tidy-item, tidy-sound, followed-on, slots-within, item-held, item-fewer}

-- ---- a walk begins with the item at its start
module _ (ed : Edition) (left k : ℕ) (a : List ℕ) where
  -- an item that is no fault, then the walk behind it
  pub walk-on : (x : Item) → 0 < left → item_at ed left k a ≡ x → is_fault x ≡ false
      → walk_all ed left k a ≡ x ∷ walk_all ed (left - slots_of x) (k + slots_of x) (drop (slot_bytes * slots_of x) a)
  walk-on x more e f = walk_step ed left k a more ∙ rw e (followed-on x _ f)

  head-tidy : 0 < left → IsTidy (walk_all ed left k a) → is_tidy (item_at ed left k a) ≡ true
  head-tidy more s = let h = walk-head ed left k a more in (tidy-cons (item_at ed left k a) h.0 (rw h.1 at s)).0

-- a walk that gave an item had a slot
pub walk-some : (ed : Edition) (left k : ℕ) (a : List ℕ) (x : Item) (xs : List Item) → walk_all ed left k a ≡ x ∷ xs → 0 < left
walk-some ed zero k a x xs e = nil-cons (sym (walk_none ed k a) ∙ e)
walk-some ed (suc left) k a x xs e = omega arith

pub walk_first : (ed : Edition) (left k : ℕ) (a : List ℕ) (x : Item) (xs : List Item) → walk_all ed left k a ≡ x ∷ xs → item_at ed left k a ≡ x
walk_first ed left k a x xs e = cons_head (sym (walk-head ed left k a (walk-some ed left k a x xs e)).1 ∙ e)

-- and its rest is the walk behind that item
pub walk-rest : (ed : Edition) (left k : ℕ) (a : List ℕ) (x : Item) (xs : List Item) → walk_all ed left k a ≡ x ∷ xs → is_fault x ≡ false
    → walk_all ed (left - slots_of x) (k + slots_of x) (drop (slot_bytes * slots_of x) a) ≡ xs
walk-rest ed left k a x xs e f = cons_tail (sym (walk-on ed left k a x (walk-some ed left k a x xs e) (walk_first ed left k a x xs e) f) ∙ e)

-- ---- put together
drop-slots : (n m : ℕ) (a : List ℕ) → drop (slot_bytes * m) (drop (slot_bytes * n) a) ≡ drop (slot_bytes * (n + m)) a
drop-slots n m a =
    let e : slot_bytes * n + slot_bytes * m ≡ slot_bytes * (n + m) = omega arith in
    drop-drop (slot_bytes * m) (slot_bytes * n) a ∙ ap (λ (j : ℕ). drop j a) e

walk-more-by : (ed : Edition) (f m left k : ℕ) (a : List ℕ) → m ≤ f → IsTidy (walk_all ed m k a)
    → walk_all ed (m + left) k a ≡ walk_all ed m k a ++ walk_all ed left (k + m) (drop (slot_bytes * m) a)
walk-more-by ed zero zero left k a p s = rw (walk_none ed, zero-add, add-zero)
walk-more-by ed zero (suc m) left k a p s = absurd (omega arith)
walk-more-by ed (suc f) zero left k a p s = rw (walk_none ed, zero-add, add-zero)
walk-more-by ed (suc f) (suc m) left k a p s =
    walk-on ed (suc m + left) k a i (omega arith) (item-held ed (suc m) k a (suc m + left) neat (omega (arith, within))) fine
    ∙ ap (λ (is : List Item). i ∷ is) (behind (walk-more-by ed f (suc m - n) left (k + n) (drop (slot_bytes * n) a) (omega (arith, pos)) rest-tidy))
    ∙ ap (λ (is : List Item). is ++ walk_all ed left (k + suc m) (drop (slot_bytes * suc m) a)) (sym here)
  where
    i : Item
    i = item_at ed (suc m) k a

    n : ℕ
    n = slots_of i

    pos : 1 ≤ n
    pos = slots-pos ed (suc m) k a

    neat : is_tidy i ≡ true
    neat = head-tidy ed (suc m) k a (omega arith) s

    fine : is_fault i ≡ false
    fine = tidy-item i neat

    within : n ≤ suc m
    within = slots-within ed (suc m) k a (omega arith) fine

    here : walk_all ed (suc m) k a ≡ i ∷ walk_all ed (suc m - n) (k + n) (drop (slot_bytes * n) a)
    here = walk-on ed (suc m) k a i (omega arith) refl fine

    rest-tidy : IsTidy (walk_all ed (suc m - n) (k + n) (drop (slot_bytes * n) a))
    rest-tidy = (tidy-cons i _ (rw here at s)).1

    behind : walk_all ed (suc m - n + left) (k + n) (drop (slot_bytes * n) a)
        ≡ walk_all ed (suc m - n) (k + n) (drop (slot_bytes * n) a) ++ walk_all ed left (k + n + (suc m - n)) (drop (slot_bytes * (suc m - n)) (drop (slot_bytes * n) a))
        → walk_all ed (suc m + left - n) (k + n) (drop (slot_bytes * n) a)
        ≡ walk_all ed (suc m - n) (k + n) (drop (slot_bytes * n) a) ++ walk_all ed left (k + suc m) (drop (slot_bytes * suc m) a)
    behind rec =
        let e₁ : suc m - n + left ≡ suc m + left - n = omega (arith, within) in
        let e₂ : k + n + (suc m - n) ≡ k + suc m = omega (arith, within) in
        let e₃ : n + (suc m - n) ≡ suc m = omega (arith, within) in
        rw (e₁, e₂, drop-slots n (suc m - n) a, e₃) at rec

-- the walk of m + left slots, where the first m are tidy
walk_more : (ed : Edition) (m left k : ℕ) (a : List ℕ) → IsTidy (walk_all ed m k a)
    → walk_all ed (m + left) k a ≡ walk_all ed m k a ++ walk_all ed left (k + m) (drop (slot_bytes * m) a)
walk_more ed m left k a s = walk-more-by ed m m left k a (omega arith) s

-- m slots of bytes that are tidy, and others behind them
pub walk-append : (ed : Edition) (m left k : ℕ) (bs a : List ℕ) → length bs ≡ slot_bytes * m → IsTidy (walk_all ed m k bs)
    → walk_all ed (m + left) k (bs ++ a) ≡ walk_all ed m k bs ++ walk_all ed left (k + m) a
walk-append ed m left k bs a l s =
    let same : walk_all ed m k bs ≡ walk_all ed m k (bs ++ a) =
    walk_same ed m k bs (bs ++ a) (sym (take-append-le (slot_bytes * m) bs a (omega arith))) in
    walk_more ed m left k (bs ++ a) (rw same at s) ∙ rw (← same, drop_at bs a (slot_bytes * m) l)

-- ---- taken apart
-- what `pre ++ post` says of the walk that gave it
pub record Split (ed : Edition) (left k : ℕ) (a : List ℕ) (pre post : List Item) : Type 0 where
  pub within : slots_in pre ≤ left
  pub front : walk_all ed (slots_in pre) k a ≡ pre
  pub back : walk_all ed (left - slots_in pre) (k + slots_in pre) (drop (slot_bytes * slots_in pre) a) ≡ post

-- one item more in front
module _ (ed : Edition) (left k : ℕ) (a : List ℕ) (x : Item) (xs : List Item) (e : walk_all ed left k a ≡ x ∷ xs) (fine : is_fault x ≡ false) where
  first-within : slots_of x ≤ left
  first-within = rw (walk_first ed left k a x xs e) at (slots-within ed left k a (walk-some ed left k a x xs e) (rw (walk_first ed left k a x xs e) fine))

  first-held : (m : ℕ) → slots_of x + m ≤ left → item_at ed (slots_of x + m) k a ≡ x
  first-held m less =
      let here : item_at ed left k a ≡ x = walk_first ed left k a x xs e in
      item-fewer ed left k a (slots_of x + m) less (rw here fine) (rw here (omega arith)) ∙ here

  first_pos : 1 ≤ slots_of x
  first_pos = rw (walk_first ed left k a x xs e) at (slots-pos ed left k a)

  split-cons : (pre post : List Item) → Split ed (left - slots_of x) (k + slots_of x) (drop (slot_bytes * slots_of x) a) pre post → Split ed left k a (x ∷ pre) post
  split-cons pre post rec =
      let n : ℕ = slots_of x in
      let p : ℕ = slots_in pre in
      let e₁ : n + p - n ≡ p = omega arith in
      let e₂ : left - n - p ≡ left - (n + p) = omega arith in
      let e₃ : k + n + p ≡ k + (n + p) = omega arith in
      record {
        within = rw slots_in-cons (omega (arith, first-within, rec.within));
        front = rw slots_in-cons (walk-on ed (n + p) k a x (omega (arith, first_pos)) (first-held p (omega (arith, first-within, rec.within))) fine ∙ rw (e₁, rec.front));
        back = rw (slots_in-cons, ← e₂, ← e₃, ← drop-slots n p a) rec.back;
      }

pub walk_split : (ed : Edition) (left k : ℕ) (a : List ℕ) (pre post : List Item) → walk_all ed left k a ≡ pre ++ post → NoFault pre → Split ed left k a pre post
walk_split ed left k a [] post e s = record {
  within = omega (arith, slots_in-nil);
  front = rw slots_in-nil (walk_none ed k a);
  back = rw (slots_in-nil, sub-zero, add-zero) e;
}
walk_split ed left k a (x ∷ pre) post e s =
    let fine = no_fault-cons x pre s in
    split-cons ed left k a x (pre ++ post) e fine.0 pre post
    (walk_split ed (left - slots_of x) (k + slots_of x) (drop (slot_bytes * slots_of x) a) pre post (walk-rest ed left k a x (pre ++ post) e fine.0) fine.1)

-- a walk without a fault covers its slots
pub slots-all : (ed : Edition) (left k : ℕ) (a : List ℕ) → NoFault (walk_all ed left k a) → slots_in (walk_all ed left k a) ≡ left
slots-all ed left k a s =
    let h = walk_split ed left k a (walk_all ed left k a) [] (sym (append-nil _)) s in
    let z : left - slots_in (walk_all ed left k a) ≡ 0 = no_slot _ _ _ h.back in
    omega (arith, h.within)
  where
    no_slot : (m j : ℕ) (b : List ℕ) → walk_all ed m j b ≡ [] → m ≡ 0
    no_slot zero j b e = refl
    no_slot (suc m) j b e = nil-cons (sym e ∙ (walk-head ed (suc m) j b (omega arith)).1)

-- ---- written anew
-- other bytes from an item on: what stands before it, where it is tidy, is as it was
pub walk_kept : (ed : Edition) (left k : ℕ) (a b : List ℕ) (pre post : List Item) → walk_all ed left k a ≡ pre ++ post → IsTidy pre
    → take (slot_bytes * slots_in pre) b ≡ take (slot_bytes * slots_in pre) a
    → walk_all ed left k b ≡ pre ++ walk_all ed (left - slots_in pre) (k + slots_in pre) (drop (slot_bytes * slots_in pre) b)
walk_kept ed left k a b pre post e s same =
    let p : ℕ = slots_in pre in
    let h : Split ed left k a pre post = walk_split ed left k a pre post e (tidy-sound pre s) in
    let before : walk_all ed p k b ≡ pre = walk_same ed p k b a same ∙ h.front in
    let n : left ≡ p + (left - p) = omega (arith, h.within) in
    ap (λ (j : ℕ). walk_all ed j k b) n ∙ walk_more ed p (left - p) k b (rw before s) ∙ rw before

-- as many slots in the place of some: what stands before and behind them is as it was
pub walk-replace : (ed : Edition) (left k : ℕ) (a bs : List ℕ) (pre mid post : List Item) → walk_all ed left k a ≡ pre ++ (mid ++ post) → NoFault (pre ++ (mid ++ post)) → IsTidy pre → slot_bytes * left ≤ length a
    → length bs ≡ slot_bytes * slots_in mid → IsTidy (walk_all ed (slots_in mid) (k + slots_in pre) bs)
    → walk_all ed left k (splice a (slot_bytes * slots_in pre) bs) ≡ pre ++ (walk_all ed (slots_in mid) (k + slots_in pre) bs ++ post)
walk-replace ed left k a bs pre mid post e s sp room l sb =
    let p : ℕ = slots_in pre in
    let m : ℕ = slots_in mid in
    let s₁ = all-parts (λ i. not (is_fault i)) pre (mid ++ post) s in
    let s₂ = all-parts (λ i. not (is_fault i)) mid post s₁.1 in
    let h₁ : Split ed left k a pre (mid ++ post) = walk_split ed left k a pre (mid ++ post) e s₁.0 in
    let h₂ : Split ed (left - p) (k + p) (drop (slot_bytes * p) a) mid post = walk_split ed (left - p) (k + p) (drop (slot_bytes * p) a) mid post h₁.back s₂.0 in
    let at : slot_bytes * p ≤ length a = omega (arith, h₁.within) in
    let n : left - p ≡ m + (left - p - m) = omega (arith, h₂.within) in
    let behind : drop (slot_bytes * p + length bs) a ≡ drop (slot_bytes * m) (drop (slot_bytes * p) a) = rw l (sym (drop-drop (slot_bytes * m) (slot_bytes * p) a)) in
    walk_kept ed left k a (splice a (slot_bytes * p) bs) pre (mid ++ post) e sp (take-splice a (slot_bytes * p) bs at)
    ∙ ap (λ (is : List Item). pre ++ is)
    (ap₂ (λ (j : ℕ) (xs : List ℕ). walk_all ed j (k + p) xs) n (drop-splice a (slot_bytes * p) bs at)
    ∙ walk-append ed m (left - p - m) (k + p) bs (drop (slot_bytes * p + length bs) a) l sb
    ∙ ap (λ (is : List Item). walk_all ed m (k + p) bs ++ is) (rw behind h₂.back))

-- ---- an edition that keeps deleted entries has nothing left over: what has no fault is tidy
pub keeps-tidy : (ed : Edition) → keeps_deleted ed ≡ true → (left k : ℕ) (a : List ℕ) (pre post : List Item) → walk_all ed left k a ≡ pre ++ post → NoFault pre → IsTidy pre
unfolding all
keeps-tidy ed keeps left k a [] post e s = refl
keeps-tidy ed keeps left k a (x ∷ pre) post e s =
    let fine = no_fault-cons x pre s in
    let here : item_at ed left k a ≡ x = walk_first ed left k a x (pre ++ post) e in
    and_both (is_tidy x) (all is_tidy pre) (rw here at (keeps-item ed left k a keeps (rw here fine.0)))
    (keeps-tidy ed keeps (left - slots_of x) (k + slots_of x) (drop (slot_bytes * slots_of x) a) pre post (walk-rest ed left k a x (pre ++ post) e fine.0) fine.1)
