-- The code's walk in the rules' words.
use Rattle.std.specs.Prelude.{ℕ, ◌+◌, ◌-◌, ◌*◌, ◌≤◌, ◌<◌, ◌≡◌, refl, Bool, true, false, ◌&&◌, List, length, get_or, take, drop, eqb, Option, None, Some}
use Rattle.std.proofs.Math.Path.{sym, ap}
use Rattle.std.proofs.Common.{subst, ◌∙◌, arith, eq-eqb, ne_eqb, drop-drop}
use Rattle.rules.specs.Lists.{pick, all}
use Rattle.rules.specs.Lists.Laws.{pick_true, pick-false, and_left, and_right, and_both}
use Rattle.rules.specs.Fields.{byte_at}
use Rattle.rules.specs.Editions.{Edition, sum_good}
use Rattle.rules.specs.Index.{Item, unused, stale, entry, fault, item_at, run_at, run_whole, unusable_item, stale_slots, stale_type, run_slots, name_good, name_field, run_type, stray_type, type_unusable, is_fault, slot_bytes}
use Rattle.rules.specs.Index.Walk.{walk_all, slots_of, slots-pos, walk_none, walk-unused, walk-stale, walk-entry, walk-fault}
use Rattle.rules.specs.Index.Items.{type-drop, faultless}
use Rattle.editions.specs.View.{edition_view}
use Rattle.slots.specs.View.{entry-slots, unusable-slots}
use Rattle.sums.specs.Summed.{Summed, summed-on, summed_same}
use Rattle.index.specs.declared.Cursor.{Cursor}
unfoldable pub use Rattle.slots.specs.View.{head_view}

-- how many slots a walk goes on from an item; 0 stands for a fault
unfoldable pub step_of : Item → ℕ
step_of (unused k) = 1
step_of (stale k n) = n
step_of (entry e) = e.slots
step_of (fault k) = 0

-- the same from the bytes at a slot, of which the walk's numbers are no part
unfoldable pub run_step : Edition → ℕ → List ℕ → ℕ
run_step ed left a = pick (run_whole ed left a && name_good (name_field ed a)) (run_slots ed a) 0

unfoldable pub unusable_step : Edition → List ℕ → ℕ
unusable_step ed a = pick (sum_good ed (take slot_bytes a)) 1 0

unfoldable pub step_at : Edition → ℕ → List ℕ → ℕ
step_at ed left a =
    pick (stale_type ed (byte_at a 0)) (stale_slots ed left a)
    (pick (run_type (byte_at a 0)) (run_step ed left a)
    (pick (eqb (byte_at a 0) type_unusable) (unusable_step ed a)
    (pick (stray_type (byte_at a 0)) 0 1)))

-- a step of n slots as it is answered, where m are left: none if n is 0, at a fault
abbrev pub StepIs : ℕ → ℕ → Option ℕ → Type 0
StepIs m n None = n ≡ 0
StepIs m n (Some k) = (k ≡ n) × (0 < k) × (k ≤ m)

pub step-same : (l m n j : ℕ) (r : Option ℕ) → l ≤ m → n ≡ j → StepIs l n r → StepIs m j r
step-same l m n j None h e s = sym e ∙ s
step-same l m n j (Some k) h e s = (s.0 ∙ e, s.1, omega (arith, s.2))

-- a choice between items, and between their steps
pick-step : (b : Bool) (x y : Item) → step_of (pick b x y) ≡ pick b (step_of x) (step_of y)
unfolding pick
pick-step true x y = refl
pick-step false x y = refl

pub step_is : (ed : Edition) (left k : ℕ) (a : List ℕ) → step_of (item_at ed left k a) ≡ step_at ed left a
unfolding item_at step_at run_at run_step unusable_item unusable_step step_of
step_is ed left k a = simp (pick-step, entry-slots, unusable-slots)

-- ---- what a program reads at `at`: n slots, and whether their name is good
module _ (ed : Edition) (left : ℕ) (a : List ℕ) where
  pub run-broken : run_whole ed left a ≡ false → 0 ≡ run_step ed left a
  unfolding run_step
  run-broken w = sym (pick-false _ _ (and_left _ _ w))

  module _ (r : Bool) (f : List ℕ) (name : r ≡ name_good f) (field : f ≡ name_field ed a) where
    pub run-nameless : r ≡ false → 0 ≡ run_step ed left a
    unfolding run_step
    run-nameless e = sym (pick-false _ _ (and_right (run_whole ed left a) _ (ap name_good (sym field) ∙ sym name ∙ e)))

    pub run-named : r ≡ true → run_whole ed left a ≡ true → (n : ℕ) → n ≡ run_slots ed a → n ≡ run_step ed left a
    unfolding run_step
    run-named e w n count = count ∙ sym (pick_true _ _ (and_both _ _ w (ap name_good (sym field) ∙ sym name ∙ e)))

module _ (ed : Edition) (s : List ℕ) (at left t : ℕ) (type : t ≡ get_or s at 0) where
  type_at : byte_at (drop at s) 0 ≡ t
  type_at = type-drop s at ∙ sym type

  pub step-stale : stale_type ed t ≡ true → stale_slots ed left (drop at s) ≡ step_at ed left (drop at s)
  unfolding step_at
  step-stale h = sym (pick_true _ _ (ap (stale_type ed) type_at ∙ h))

  module _ (fresh : stale_type ed t ≡ false) where
    step-fresh : step_at ed left (drop at s)
        ≡ pick (run_type t) (run_step ed left (drop at s)) (pick (eqb t type_unusable) (unusable_step ed (drop at s)) (pick (stray_type t) 0 1))
    unfolding step_at
    step-fresh =
        pick-false _ _ (ap (stale_type ed) type_at ∙ fresh)
        ∙ ap (λ (x : ℕ). pick (run_type x) (run_step ed left (drop at s)) (pick (eqb x type_unusable) (unusable_step ed (drop at s)) (pick (stray_type x) 0 1))) type_at

    pub step_run : run_type t ≡ true → run_step ed left (drop at s) ≡ step_at ed left (drop at s)
    step_run h = sym (step-fresh ∙ pick_true _ _ h)

    module _ (h : run_type t ≡ false) where
      pub step-unusable : t ≡ type_unusable → unusable_step ed (drop at s) ≡ step_at ed left (drop at s)
      step-unusable u = sym (step-fresh ∙ pick-false _ _ h ∙ pick_true _ _ (eq-eqb t type_unusable u))

      pub step-stray : (t ≡ type_unusable → ⊥) → stray_type t ≡ true → 0 ≡ step_at ed left (drop at s)
      step-stray u p = sym (step-fresh ∙ pick-false _ _ h ∙ pick-false _ _ (ne_eqb t type_unusable u) ∙ pick_true _ _ p)

      pub step-unused : (t ≡ type_unusable → ⊥) → stray_type t ≡ false → 1 ≡ step_at ed left (drop at s)
      step-unused u p = sym (step-fresh ∙ pick-false _ _ h ∙ pick-false _ _ (ne_eqb t type_unusable u) ∙ pick-false _ _ p)

-- ---- a walk that goes on by these steps
module _ (ed : Edition) (left k : ℕ) (a : List ℕ) (more : 0 < left) where
  stop-by : (i : Item) → item_at ed left k a ≡ i → step_of i ≡ 0 → faultless (walk_all ed left k a) ≡ false
  unfolding step_of faultless is_fault all slots_of
  stop-by (unused j) e z = absurd (omega arith)
  stop-by (stale j n) e z = absurd (omega (arith, rw e at (slots-pos ed left k a)))
  stop-by (entry x) e z = absurd (omega (arith, rw e at (slots-pos ed left k a)))
  stop-by (fault j) e z = rw (walk-fault ed left k a more j e)

  pub walk-stops : step_at ed left a ≡ 0 → faultless (walk_all ed left k a) ≡ false
  walk-stops z = stop-by (item_at ed left k a) refl (step_is ed left k a ∙ z)

  turn_by : (i : Item) → item_at ed left k a ≡ i → (n : ℕ) → step_of i ≡ n → (n ≡ 0 → ⊥)
      → faultless (walk_all ed (left - n) (k + n) (drop (slot_bytes * n) a)) ≡ faultless (walk_all ed left k a)
  unfolding step_of faultless is_fault all
  turn_by (unused j) e n z d = rw (walk-unused ed left k a more j e, ← z)
  turn_by (stale j m) e n z d = rw (walk-stale ed left k a more j m e, ← z)
  turn_by (entry x) e n z d = rw (walk-entry ed left k a more x e, ← z)
  turn_by (fault j) e n z d = absurd (d (sym z))

-- ---- cursors
-- what a cursor has before it lies in the image
pub record Inside (s : List ℕ) (c : Cursor) : Type 0 where
  pub fits : c.at.0 + 64 * c.left ≤ length s
  pub short : length s ≤ 16_777_216
  pub numbers : c.slot.0 + c.left ≤ 16_777_216

-- the sums of the slots that it has before it
abbrev pub SumsFrom : List ℕ → List ℕ → Cursor → Type 0
SumsFrom s t c = Summed (edition_view c.edition) s t c.at.0 c.slot.0 c.left

abbrev pub items_from : List ℕ → Cursor → List Item
items_from s c = walk_all (edition_view c.edition) c.left c.slot.0 (drop c.at.0 s)

-- the cursor n slots further
pub record Past (c : Cursor) (n : ℕ) (d : Cursor) : Type 0 where
  pub edition : d.edition ≡ c.edition
  pub at : d.at.0 ≡ c.at.0 + 64 * n
  pub slot : d.slot.0 ≡ c.slot.0 + n
  pub left : d.left ≡ c.left - n

module _ (s : List ℕ) (c : Cursor) (n : ℕ) (d : Cursor) (past : Past c n d) where
  pub past-items : items_from s d ≡ walk_all (edition_view c.edition) (c.left - n) (c.slot.0 + n) (drop (slot_bytes * n) (drop c.at.0 s))
  past-items = rw (past.edition, past.at, past.slot, past.left) (ap (walk_all (edition_view c.edition) (c.left - n) (c.slot.0 + n)) (sym (drop-drop (64 * n) c.at.0 s)))

  pub past-inside : Inside s c → n ≤ c.left → Inside s d
  past-inside i h = record {
    fits = omega (arith, past.at, past.left, i.fits);
    short = i.short;
    numbers = omega (arith, past.slot, past.left, i.numbers);
  }

  -- a walk that goes on by a step meets the faults of the walk before it
  pub walk-turns : 0 < c.left → n ≡ step_at (edition_view c.edition) c.left (drop c.at.0 s) → (n ≡ 0 → ⊥) → faultless (items_from s d) ≡ faultless (items_from s c)
  walk-turns h e z =
      let a : List ℕ = drop c.at.0 s in
      let ed : Edition = edition_view c.edition in
      ap faultless past-items ∙ turn_by ed c.left c.slot.0 a h (item_at ed c.left c.slot.0 a) refl n (step_is ed c.left c.slot.0 a ∙ sym e) z

pub walk_ends : (s : List ℕ) (c : Cursor) → c.left ≡ 0 → true ≡ faultless (items_from s c)
unfolding faultless all
walk_ends s c h = rw (h, walk_none (edition_view c.edition) c.slot.0 (drop c.at.0 s))

-- ---- a cursor in the walk of another, at it or behind it
pub record Behind (c d : Cursor) : Type 0 where
  pub edition : d.edition ≡ c.edition
  pub ahead : c.slot.0 ≤ d.slot.0
  pub place : d.at.0 + 64 * c.slot.0 ≡ c.at.0 + 64 * d.slot.0
  pub ends : d.slot.0 + d.left ≡ c.slot.0 + c.left

pub behind-itself : (c : Cursor) → Behind c c
behind-itself c = record { edition = refl; ahead = omega arith; place = refl; ends = refl }

pub behind-past : (b c : Cursor) → Behind b c → (n : ℕ) (d : Cursor) → Past c n d → n ≤ c.left → Behind b d
behind-past b c r n d past h = record {
  edition = past.edition ∙ r.edition;
  ahead = omega (arith, r.ahead, past.slot);
  place = omega (arith, r.place, past.at, past.slot);
  ends = omega (arith, r.ends, past.slot, past.left);
}

pub behind-on : (a b c : Cursor) → Behind a b → Behind b c → Behind a c
behind-on a b c r q = record {
  edition = q.edition ∙ r.edition;
  ahead = omega (arith, r.ahead, q.ahead);
  place = omega (arith, r.place, q.place);
  ends = q.ends ∙ r.ends;
}

-- ---- sums serve a whole walk
module _ (s t : List ℕ) (c : Cursor) (sums : SumsFrom s t c) where
  -- further on, or over fewer slots
  pub sums_on : (d : Cursor) → d.edition ≡ c.edition → c.slot.0 ≤ d.slot.0 → d.at.0 + 64 * c.slot.0 ≡ c.at.0 + 64 * d.slot.0
      → d.slot.0 + d.left ≤ c.slot.0 + c.left → SumsFrom s t d
  sums_on d of ahead place ends =
      subst (λ (ed : Edition). Summed ed s t d.at.0 d.slot.0 d.left) (ap edition_view (sym of))
      (summed-on _ s t _ _ _ sums _ _ _ (d.slot.0 - c.slot.0) (omega arith) (omega arith) (omega arith))

  pub sums-behind : (d : Cursor) → Behind c d → SumsFrom s t d
  sums-behind d r = sums_on d r.edition r.ahead r.place (omega (arith, r.ends))

  pub sums-past : (n : ℕ) (d : Cursor) → Past c n d → n ≤ c.left → SumsFrom s t d
  sums-past n d past h = sums_on d past.edition (omega (arith, past.slot)) (omega (arith, past.at, past.slot)) (omega (arith, past.slot, past.left))

  -- where the image has the same slots
  pub sums_kept : (u : List ℕ) → drop c.at.0 u ≡ drop c.at.0 s → SumsFrom u t c
  sums_kept u same = summed_same _ s t _ _ _ sums u same
