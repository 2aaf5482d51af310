-- What stands at a slot, by cases; and what a slot without fault is.
use Rattle.std.specs.Prelude.{ℕ, ◌+◌, ◌-◌, ◌*◌, ◌≤◌, ◌<◌, ◌≡◌, Bool, ◌&&◌, ◌||◌, not, List, [], ◌∷◌, get_or, take, drop, leb}
use Rattle.std.proofs.Math.Path.{refl, ap}
use Rattle.std.proofs.Common.{sym, ◌∙◌, arith, drop-drop, get_or-drop, le-leb, eq-eqb, ne_eqb, leb-true, eqb-true}
use Rattle.std.proofs.Math.Bool.{true, false}
use Rattle.std.proofs.Math.Dec.{eqb}
use Rattle.std.proofs.lemmas.Bool.{eqb-false, not-true}
use Rattle.rules.specs.Lists.{pick, all}
use Rattle.rules.specs.Lists.Laws.{clash, pick_true, pick-false, and-true, and_both, and_left, and_right, drop-take}
use Rattle.rules.specs.Fields.{byte_at, le}
use Rattle.rules.specs.Fields.Laws.{le-drop}
use Rattle.rules.specs.Index.Laws.{name-at-bounds}
use Rattle.rules.specs.Editions.{Edition, sum_good}
use Rattle.rules.specs.Index.{Entry, Item, unused, stale, entry, fault, item_at, run_at, run_whole, unusable_item, stale_slots, stale_type, deleted_type, entry_at, unusable_at, run_slots, run_field, name_field, name_good, run_type, stray_type, type_unusable, is_fault, slot_bytes, entries_of, name_at, file_type, file_field}
use Rattle.rules.specs.Index.Walk.{walk_all, walk-unused, walk-stale, walk-entry, walk-fault, slots_of, stale-pos, pick-both}

-- ---- by cases
module _ (ed : Edition) (left k : ℕ) (a : List ℕ) where
  pub item-stale : stale_type ed (byte_at a 0) ≡ true → item_at ed left k a ≡ stale k (stale_slots ed left a)
  unfolding item_at
  item-stale s = pick_true _ _ s

  module _ (s : stale_type ed (byte_at a 0) ≡ false) where
    pub item-run : run_type (byte_at a 0) ≡ true → run_whole ed left a ≡ true → name_good (name_field ed a) ≡ true → item_at ed left k a ≡ entry (entry_at ed k a)
    unfolding item_at run_at
    item-run t w n = pick-false _ _ s ∙ pick_true _ _ t ∙ pick_true _ _ (and_both _ _ w n)

    pub item-broken : run_type (byte_at a 0) ≡ true → run_whole ed left a ≡ false → item_at ed left k a ≡ fault k
    unfolding item_at run_at
    item-broken t w = pick-false _ _ s ∙ pick_true _ _ t ∙ pick-false _ _ (and_left _ _ w)

    pub item-nameless : run_type (byte_at a 0) ≡ true → name_good (name_field ed a) ≡ false → item_at ed left k a ≡ fault k
    unfolding item_at run_at
    item-nameless t n = pick-false _ _ s ∙ pick_true (run_at ed left k a) _ t ∙ pick-false _ _ (and_right (run_whole ed left a) _ n)

    module _ (t : run_type (byte_at a 0) ≡ false) where
      pub item-unusable : byte_at a 0 ≡ type_unusable → item_at ed left k a ≡ unusable_item ed k a
      unfolding item_at
      item-unusable e = pick-false _ _ s ∙ pick-false _ _ t ∙ pick_true _ _ (eq-eqb (byte_at a 0) type_unusable e)

      pub item-stray : (byte_at a 0 ≡ type_unusable → ⊥) → stray_type (byte_at a 0) ≡ true → item_at ed left k a ≡ fault k
      unfolding item_at
      item-stray e h = pick-false _ _ s ∙ pick-false _ _ t ∙ pick-false _ _ (ne_eqb (byte_at a 0) type_unusable e) ∙ pick_true _ _ h

      pub item-unused : (byte_at a 0 ≡ type_unusable → ⊥) → stray_type (byte_at a 0) ≡ false → item_at ed left k a ≡ unused k
      unfolding item_at
      item-unused e h = pick-false _ _ s ∙ pick-false _ _ t ∙ pick-false _ _ (ne_eqb (byte_at a 0) type_unusable e) ∙ pick-false _ _ h

-- an unusable entry by its sum
module _ (ed : Edition) (k : ℕ) (a : List ℕ) where
  pub unusable-good : sum_good ed (take slot_bytes a) ≡ true → unusable_item ed k a ≡ entry (unusable_at ed k a)
  unfolding unusable_item
  unusable-good e = pick_true _ _ e

  pub unusable-bad : sum_good ed (take slot_bytes a) ≡ false → unusable_item ed k a ≡ fault k
  unfolding unusable_item
  unusable-bad e = pick-false _ _ e

-- a run that is whole
module _ (ed : Edition) (left : ℕ) (a : List ℕ) where
  pub whole-fits : run_whole ed left a ≡ true → (run_slots ed a ≤ left) × (sum_good ed (run_field ed a) ≡ true)
  unfolding run_whole
  whole-fits w = let p = and-true (leb (run_slots ed a) left) (sum_good ed (run_field ed a)) w in (leb-true (run_slots ed a) left p.0, p.1)

  pub fits_whole : run_slots ed a ≤ left → sum_good ed (run_field ed a) ≡ true → run_whole ed left a ≡ true
  unfolding run_whole
  fits_whole l g = and_both _ _ (le-leb (run_slots ed a) left l) g

-- of a run that fits, the sum is left to judge
pub whole_sum : (ed : Edition) (left : ℕ) (a : List ℕ) (n : ℕ) → n ≡ run_slots ed a → n ≤ left → run_whole ed left a ≡ sum_good ed (take (slot_bytes * n) a)
unfolding run_whole run_field
whole_sum ed left a n e l = rw (← e, le-leb n left l)

-- what is left over lies before the identifier
pub stale-fits : (ed : Edition) (left : ℕ) (a : List ℕ) → 0 < left → stale_slots ed left a ≤ left
unfolding stale_slots pick
stale-fits ed left a more = by (run_whole ed left a) refl (deleted_type (byte_at a 0))
  where
    by : (w : Bool) → run_whole ed left a ≡ w → (d : Bool) → pick (d && w) (run_slots ed a) 1 ≤ left
    by true e true = (whole-fits ed left a e).0
    by true e false = omega arith
    by false e true = omega arith
    by false e false = omega arith

-- ---- without fault
unfoldable pub faultless : List Item → Bool
faultless is = all (λ i. not (is_fault i)) is

-- a slot, or several, with no entry
unfoldable pub gap_at : Edition → ℕ → ℕ → List ℕ → Item
gap_at ed left k a = pick (stale_type ed (byte_at a 0)) (stale k (stale_slots ed left a)) (unused k)

-- so many slots
unfoldable pub gap_slots : Edition → ℕ → List ℕ → ℕ
gap_slots ed left a = pick (stale_type ed (byte_at a 0)) (stale_slots ed left a) 1

module _ (ed : Edition) (left k : ℕ) (a : List ℕ) where
  pub gap-slots : slots_of (gap_at ed left k a) ≡ gap_slots ed left a
  unfolding gap_at gap_slots pick slots_of
  gap-slots = by (stale_type ed (byte_at a 0))
    where
      by : (b : Bool) → slots_of (pick b (stale k (stale_slots ed left a)) (unused k)) ≡ pick b (stale_slots ed left a) 1
      by true = refl
      by false = refl

  pub gap-fits : 0 < left → (1 ≤ gap_slots ed left a) × (gap_slots ed left a ≤ left)
  unfolding gap_slots
  gap-fits more =
      (pick-both (λ n. 1 ≤ n) _ _ _ (stale-pos ed left a) (omega arith), pick-both (λ n. n ≤ left) _ _ _ (stale-fits ed left a more) (omega arith))

-- a walk without fault: what stands first, and the rest
module _ (ed : Edition) (left k : ℕ) (a : List ℕ) (more : 0 < left) (sound : faultless (walk_all ed left k a) ≡ true) where
  no-fault : (j : ℕ) → item_at ed left k a ≡ fault j → ⊥
  unfolding faultless is_fault all
  no-fault j e =
      let w : faultless (fault j ∷ []) ≡ true = rw (walk-fault ed left k a more j e) at sound in
      clash (sym w)

  module _ (s : stale_type ed (byte_at a 0) ≡ false) where
    -- a run: it is whole, and its name is good
    pub sound-run : run_type (byte_at a 0) ≡ true → (item_at ed left k a ≡ entry (entry_at ed k a)) × (run_whole ed left a ≡ true) × (name_good (name_field ed a) ≡ true)
    sound-run t = by (run_whole ed left a) refl (name_good (name_field ed a)) refl
      where
        by : (p : Bool) → run_whole ed left a ≡ p → (q : Bool) → name_good (name_field ed a) ≡ q
            → (item_at ed left k a ≡ entry (entry_at ed k a)) × (run_whole ed left a ≡ true) × (name_good (name_field ed a) ≡ true)
        by true d true e = (item-run ed left k a s t d e, d, e)
        by true d false e = absurd (no-fault k (item-nameless ed left k a s t e))
        by false d q e = absurd (no-fault k (item-broken ed left k a s t d))

    -- an unusable entry: its sum is right
    pub sound-unusable : run_type (byte_at a 0) ≡ false → byte_at a 0 ≡ type_unusable → item_at ed left k a ≡ entry (unusable_at ed k a)
    sound-unusable t u = by (sum_good ed (take slot_bytes a)) refl
      where
        by : (p : Bool) → sum_good ed (take slot_bytes a) ≡ p → item_at ed left k a ≡ entry (unusable_at ed k a)
        by true e = item-unusable ed left k a s t u ∙ unusable-good ed k a e
        by false e = absurd (no-fault k (item-unusable ed left k a s t u ∙ unusable-bad ed k a e))

    -- neither: an unused slot
    pub sound-other : run_type (byte_at a 0) ≡ false → (byte_at a 0 ≡ type_unusable → ⊥) → item_at ed left k a ≡ unused k
    sound-other t u = by (stray_type (byte_at a 0)) refl
      where
        by : (p : Bool) → stray_type (byte_at a 0) ≡ p → item_at ed left k a ≡ unused k
        by true e = absurd (no-fault k (item-stray ed left k a s t u e))
        by false e = item-unused ed left k a s t u e

  -- the rest is without fault too
  pub rest-sound : (i : Item) → item_at ed left k a ≡ i → (n : ℕ) → n ≡ slots_of i → faultless (walk_all ed (left - n) (k + n) (drop (slot_bytes * n) a)) ≡ true
  unfolding faultless is_fault all slots_of
  rest-sound (unused j) e n h = rw h (rw (walk-unused ed left k a more j e) at sound)
  rest-sound (stale j m) e n h = rw h (rw (walk-stale ed left k a more j m e) at sound)
  rest-sound (entry x) e n h = rw h (rw (walk-entry ed left k a more x e) at sound)
  rest-sound (fault j) e n h = absurd (no-fault j e)

-- ---- the entries of a walk, one step at a time
module _ (ed : Edition) (left k : ℕ) (a : List ℕ) (more : 0 < left) where
  -- what stands behind a gap
  abbrev behind_gap : List Item
  behind_gap = walk_all ed (left - gap_slots ed left a) (k + gap_slots ed left a) (drop (slot_bytes * gap_slots ed left a) a)

  pub walk-gap : item_at ed left k a ≡ gap_at ed left k a → walk_all ed left k a ≡ gap_at ed left k a ∷ behind_gap
  unfolding gap_at gap_slots pick
  walk-gap e = by (stale_type ed (byte_at a 0)) refl
    where
      by : (b : Bool) → stale_type ed (byte_at a 0) ≡ b → walk_all ed left k a ≡ gap_at ed left k a ∷ behind_gap
      by true s = rw s (walk-stale ed left k a more k (stale_slots ed left a) (e ∙ pick_true _ _ s))
      by false s = rw s (walk-unused ed left k a more k (e ∙ pick-false _ _ s))

  pub entries-gap : item_at ed left k a ≡ gap_at ed left k a → entries_of (walk_all ed left k a) ≡ entries_of behind_gap
  unfolding gap_at entries_of
  entries-gap e = ap entries_of (walk-gap e) ∙ pick-both (λ i. entries_of (i ∷ behind_gap) ≡ entries_of behind_gap) (stale_type ed (byte_at a 0)) _ _ refl refl

  pub entries-entry : (x : Entry) → item_at ed left k a ≡ entry x
      → entries_of (walk_all ed left k a) ≡ x ∷ entries_of (walk_all ed (left - x.slots) (k + x.slots) (drop (slot_bytes * x.slots) a))
  unfolding entries_of
  entries-entry x e = ap entries_of (walk-entry ed left k a more x e)

-- ---- names, in the forms that a program looks at them
slots-low : (ed : Edition) (a : List ℕ) → 1 ≤ run_slots ed a
unfolding run_slots
slots-low ed a = omega arith

-- in the whole image, where the run starts at `at`
pub name-field : (ed : Edition) (s : List ℕ) (at : ℕ) → name_field ed (drop at s)
    ≡ take (at + slot_bytes * run_slots ed (drop at s) - (at + name_at ed (byte_at (drop at s) 0))) (drop (at + name_at ed (byte_at (drop at s) 0)) s)
unfolding name_field run_field
name-field ed s at =
    let t : ℕ = name_at ed (byte_at (drop at s) 0) in
    let n : ℕ = run_slots ed (drop at s) in
    let h : t ≤ 35 = (name-at-bounds ed (byte_at (drop at s) 0)).1 in
    let p : 1 ≤ n = slots-low ed (drop at s) in
    let e : slot_bytes * n ≡ t + (at + slot_bytes * n - (at + t)) = omega arith in
    ap (λ (m : ℕ). drop t (take m (drop at s))) e
    ∙ drop-take t (at + slot_bytes * n - (at + t)) (drop at s)
    ∙ ap (take (at + slot_bytes * n - (at + t))) (drop-drop t at s)

pub byte-drop : (s : List ℕ) (at i : ℕ) → byte_at (drop at s) i ≡ get_or s (at + i) 0
unfolding byte_at
byte-drop s at i = get_or-drop at s i 0

pub type-drop : (s : List ℕ) (at : ℕ) → byte_at (drop at s) 0 ≡ get_or s at 0
type-drop s at = byte-drop s at 0 ∙ ap (λ (i : ℕ). get_or s i 0) (omega arith)

-- ---- fields, in the whole image
pub file-field : (s : List ℕ) (at o : ℕ) → file_type (get_or s at 0) ≡ true → file_field (drop at s) o ≡ le 8 s (at + o)
unfolding file_field
file-field s at o t = pick_true _ _ (ap file_type (type-drop s at) ∙ t) ∙ le-drop 8 s at o

pub directory-field : (s : List ℕ) (at o : ℕ) → file_type (get_or s at 0) ≡ false → file_field (drop at s) o ≡ 0
unfolding file_field
directory-field s at o t = pick-false _ _ (ap file_type (type-drop s at) ∙ t)

-- ---- an entry's first slot: a run, or an unusable entry
unfoldable pub head_of : Edition → ℕ → List ℕ → Entry
head_of ed k a = pick (run_type (byte_at a 0)) (entry_at ed k a) (unusable_at ed k a)

pub head-run : (ed : Edition) (k : ℕ) (a : List ℕ) → run_type (byte_at a 0) ≡ true → head_of ed k a ≡ entry_at ed k a
unfolding head_of
head-run ed k a t = pick_true _ _ t

pub head-unusable : (ed : Edition) (k : ℕ) (a : List ℕ) → run_type (byte_at a 0) ≡ false → head_of ed k a ≡ unusable_at ed k a
unfolding head_of
head-unusable ed k a t = pick-false _ _ t

-- ---- a slot without fault that starts an entry
unfoldable pub entry_type : Edition → ℕ → Bool
entry_type ed t = not (stale_type ed t) && (run_type t || eqb t type_unusable)

-- what is known of an entry's first slot in a sound walk
pub record Stands (ed : Edition) (left k : ℕ) (a : List ℕ) : Type 0 where
  pub item : item_at ed left k a ≡ entry (head_of ed k a)
  pub low : 1 ≤ (head_of ed k a).slots
  pub fits : (head_of ed k a).slots ≤ left
  pub named : run_type (byte_at a 0) ≡ true → name_good (name_field ed a) ≡ true

module _ (ed : Edition) (left k : ℕ) (a : List ℕ) (more : 0 < left) (sound : faultless (walk_all ed left k a) ≡ true) where
  module _ (s : stale_type ed (byte_at a 0) ≡ false) where
    stands-run : run_type (byte_at a 0) ≡ true → Stands ed left k a
    unfolding entry_at
    stands-run t =
        let h = sound-run ed left k a more sound s t in
        let e = head-run ed k a t in
        record { item = h.0 ∙ ap entry (sym e); low = rw e (slots-low ed a); fits = rw e (whole-fits ed left a h.1).0; named = λ u. h.2 }

    stands-unusable : run_type (byte_at a 0) ≡ false → byte_at a 0 ≡ type_unusable → Stands ed left k a
    unfolding unusable_at
    stands-unusable t u =
        let e = head-unusable ed k a t in
        record {
          item = sound-unusable ed left k a more sound s t u ∙ ap entry (sym e);
          low = rw e (omega arith);
          fits = rw e (omega arith);
          named = λ v. clash (sym v ∙ t);
        }

  pub sound-entry : entry_type ed (byte_at a 0) ≡ true → Stands ed left k a
  unfolding entry_type
  sound-entry t =
      let p = and-true (not (stale_type ed (byte_at a 0))) (run_type (byte_at a 0) || eqb (byte_at a 0) type_unusable) t in
      by (not-true _ p.0) (run_type (byte_at a 0)) refl p.1
    where
      by : stale_type ed (byte_at a 0) ≡ false → (b : Bool) → run_type (byte_at a 0) ≡ b → (b || eqb (byte_at a 0) type_unusable) ≡ true → Stands ed left k a
      by s true e u = stands-run s e
      by s false e u = stands-unusable s e (eqb-true (byte_at a 0) type_unusable u)

  -- any other slot without fault
  pub sound-gap : entry_type ed (byte_at a 0) ≡ false → item_at ed left k a ≡ gap_at ed left k a
  unfolding entry_type gap_at
  sound-gap t = by (stale_type ed (byte_at a 0)) refl (run_type (byte_at a 0)) refl (eqb (byte_at a 0) type_unusable) refl
    where
      starts : (not (stale_type ed (byte_at a 0)) && (run_type (byte_at a 0) || eqb (byte_at a 0) type_unusable)) ≡ true
          → (not (stale_type ed (byte_at a 0)) && (run_type (byte_at a 0) || eqb (byte_at a 0) type_unusable)) ≡ true
      starts e = e

      by : (x : Bool) → stale_type ed (byte_at a 0) ≡ x → (y : Bool) → run_type (byte_at a 0) ≡ y → (z : Bool) → eqb (byte_at a 0) type_unusable ≡ z
          → item_at ed left k a ≡ pick (stale_type ed (byte_at a 0)) (stale k (stale_slots ed left a)) (unused k)
      by true s y r z u = item-stale ed left k a s ∙ sym (pick_true _ _ s)
      by false s true r z u = clash (sym (starts (rw (s, r))) ∙ t)
      by false s false r true u = clash (sym (starts (rw (s, r, u))) ∙ t)
      by false s false r false u = sound-other ed left k a more sound s r (eqb-false (byte_at a 0) type_unusable u) ∙ sym (pick-false _ _ s)

-- ---- how far a walk goes on from a slot without fault
unfoldable pub step_slots : Edition → ℕ → List ℕ → ℕ
step_slots ed left a = pick (stale_type ed (byte_at a 0)) (stale_slots ed left a) (pick (run_type (byte_at a 0)) (run_slots ed a) 1)

module _ (ed : Edition) (left : ℕ) (a : List ℕ) where
  pub step-entry : (k : ℕ) → entry_type ed (byte_at a 0) ≡ true → step_slots ed left a ≡ (head_of ed k a).slots
  unfolding entry_type step_slots head_of entry_at unusable_at pick
  step-entry k t =
      let p = and-true (not (stale_type ed (byte_at a 0))) (run_type (byte_at a 0) || eqb (byte_at a 0) type_unusable) t in
      by (stale_type ed (byte_at a 0)) (not-true (stale_type ed (byte_at a 0)) p.0) (run_type (byte_at a 0))
    where
      by : (x : Bool) → x ≡ false → (b : Bool) → pick x (stale_slots ed left a) (pick b (run_slots ed a) 1) ≡ (pick b (entry_at ed k a) (unusable_at ed k a)).slots
      by true e b = clash e
      by false e true = refl
      by false e false = refl

  pub step-gap : entry_type ed (byte_at a 0) ≡ false → step_slots ed left a ≡ gap_slots ed left a
  unfolding entry_type step_slots gap_slots pick
  step-gap t = by (stale_type ed (byte_at a 0)) (run_type (byte_at a 0)) t
    where
      by : (x y : Bool) → (not x && (y || eqb (byte_at a 0) type_unusable)) ≡ false → pick x (stale_slots ed left a) (pick y (run_slots ed a) 1) ≡ pick x (stale_slots ed left a) 1
      by true y e = refl
      by false true e = clash e
      by false false e = refl
