-- The items before the first entry that passes.
use Rattle.std.specs.Prelude.{ℕ, ◌-◌, ◌≤◌, ◌≡◌, Bool}
use Rattle.std.proofs.Math.Path.{refl, ap}
use Rattle.std.proofs.Common.{sym, ◌∙◌, arith}
use Rattle.std.proofs.Math.Bool.{true, false}
use mathlib.Core.List.{List, [], ◌∷◌, ◌++◌}
use Rattle.std.proofs.Math.Option.{none, some}
use Rattle.rules.specs.Lists.{pick, all, any, first, first_if}
use Rattle.rules.specs.Lists.Laws.{or-false, pick_true, pick-false}
use Rattle.rules.specs.Editions.{Edition}
use Rattle.rules.specs.Index.{Entry, Item, unused, stale, entry, fault, is_fault, entries_of, walk_all}
use Rattle.rules.specs.Index.Items.{faultless}
use Rattle.rules.specs.Writing.{item_slot, items_before}
use Rattle.laws.proofs.Lists.Parts.{none-some}
use Rattle.laws.proofs.Index.Items.{slots_in}
use Rattle.laws.proofs.Index.Walks.{Split, walk_split}
use Rattle.laws.proofs.Index.Places.{Found, first-split, before-sound, slot-there}

module _ (p : Entry → Bool) where
  -- all, where none passes
  pub before-none : (is : List Item) → first p (entries_of is) ≡ none → items_before p is ≡ is
  unfolding items_before entries_of first first_if
  before-none [] h = refl
  before-none (unused k ∷ is) h = ap (λ (js : List Item). unused k ∷ js) (before-none is h)
  before-none (stale k n ∷ is) h = ap (λ (js : List Item). stale k n ∷ js) (before-none is h)
  before-none (fault k ∷ is) h = ap (λ (js : List Item). fault k ∷ js) (before-none is h)
  before-none (entry x ∷ is) h = by (p x) refl (λ g. before-none is g)
    where
      by : (t : Bool) → p x ≡ t → (first p (entries_of is) ≡ none → items_before p is ≡ is) → items_before p (entry x ∷ is) ≡ entry x ∷ is
      by true q rec = none-some x (sym (rw q at h))
      by false q rec = pick-false _ _ q ∙ ap (λ (js : List Item). entry x ∷ js) (rec (rw q at h))

  -- those before one that passes, where none of them does
  pub before_split : (pre : List Item) (e : Entry) (post : List Item) → any p (entries_of pre) ≡ false → p e ≡ true → items_before p (pre ++ (entry e ∷ post)) ≡ pre
  unfolding items_before entries_of any
  before_split [] e post n t = pick_true _ _ t
  before_split (unused k ∷ pre) e post n t = ap (λ (js : List Item). unused k ∷ js) (before_split pre e post n t)
  before_split (stale k m ∷ pre) e post n t = ap (λ (js : List Item). stale k m ∷ js) (before_split pre e post n t)
  before_split (fault k ∷ pre) e post n t = ap (λ (js : List Item). fault k ∷ js) (before_split pre e post n t)
  before_split (entry x ∷ pre) e post n t =
      let q = or-false (p x) (any p (entries_of pre)) n in
      pick-false _ _ q.0 ∙ ap (λ (js : List Item). entry x ∷ js) (before_split pre e post q.1 t)

  -- they are without fault where all are
  pub before-faultless : (is : List Item) → faultless is ≡ true → faultless (items_before p is) ≡ true
  unfolding items_before faultless is_fault all pick
  before-faultless [] h = refl
  before-faultless (unused k ∷ is) h = before-faultless is h
  before-faultless (stale k n ∷ is) h = before-faultless is h
  before-faultless (fault k ∷ is) h = h
  before-faultless (entry x ∷ is) h = by (p x) (before-faultless is h)
    where
      by : (t : Bool) → faultless (items_before p is) ≡ true → faultless (pick t [] (entry x ∷ items_before p is)) ≡ true
      by true rec = refl
      by false rec = rec

-- ---- a walk cut before an entry has the items before it: what is left over there too lies before it, and is the same with fewer slots left
pub record CutAt (ed : Edition) (left k : ℕ) (a : List ℕ) (p : Entry → Bool) (n : ℕ) : Type 0 where
  pub less : n ≤ left
  pub items : walk_all ed n k a ≡ items_before p (walk_all ed left k a)

module _ (ed : Edition) (left k : ℕ) (a : List ℕ) (p : Entry → Bool) where
  pub cut-nowhere : first p (entries_of (walk_all ed left k a)) ≡ none → CutAt ed left k a p left
  cut-nowhere h = record { less = omega arith; items = sym (before-none p (walk_all ed left k a) h) }

  slot_is : (e : Entry) → item_slot (entry e) ≡ e.slot
  unfolding item_slot
  slot_is e = refl

  pub cut-before : (e : Entry) → first p (entries_of (walk_all ed left k a)) ≡ some e → CutAt ed left k a p (e.slot - k)
  cut-before e h =
      let f : Found p (walk_all ed left k a) e = first-split p (walk_all ed left k a) e h in
      let pre : List Item = f.pre in
      let s : Split ed left k a pre (entry e ∷ f.post) = walk_split ed left k a pre (entry e ∷ f.post) f.split (before-sound ed left k a pre (entry e) f.post f.split) in
      let n : e.slot - k ≡ slots_in pre = omega (arith, slot_is e, slot-there ed left k a pre (entry e) f.post f.split) in
      record {
        less = omega (arith, n, s.within);
        items = rw n (s.front ∙ sym (ap (items_before p) f.split ∙ before_split p pre e f.post f.before f.passes));
      }
