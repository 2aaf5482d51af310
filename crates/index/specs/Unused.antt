-- The lowest unused slots that hold a run, taken one step of the walk further.
use Rattle.std.specs.Prelude.{ℕ, ◌+◌, ◌-◌, ◌≤◌, ◌<◌, ◌≡◌, Bool, List, [], ◌∷◌, get_or, drop, Option as Answer, None, Some}
use Rattle.std.proofs.Math.Path.{refl}
use Rattle.std.proofs.Common.{sym, ap, ◌∙◌, arith}
use Rattle.std.proofs.Math.Bool.{true, false}
use Rattle.std.proofs.Math.Option.{Option, none, some}
use Rattle.std.proofs.Math.Decide.{dec_le}
use borrow.Author.Tests.{le-leb, lt-leb}
use Rattle.rules.specs.Lists.{pick, first_if}
use Rattle.rules.specs.Fields.{byte_at}
use Rattle.rules.specs.Editions.{Edition}
use Rattle.rules.specs.Index.{Entry, Item, unused, stale, entry, item_at, run_at, unusable_item, entry_at, unusable_at, stale_type, stale_slots}
use Rattle.rules.specs.Index.Walk.{walk_none, walk-head, walk-entry, pick-both}
use Rattle.rules.specs.Index.Items.{head_of, entry_type, step_slots, step-entry, type-drop, sound-entry, gap_at, gap_slots, walk-gap}
use Rattle.rules.specs.Writing.{unused_first, starts_unused, item_slot, lowest_unused}
use Rattle.editions.specs.View.{edition_view}
use Rattle.index.specs.declared.Cursor.{Cursor}
use Rattle.units.specs.declared.Slot.{Slot}
use Rattle.index.specs.View.{items_from, Past, past-items}
use Rattle.index.specs.Steps.{Walks, gap_is, gap-count, gap-behind}

abbrev pub unused_view : Answer Slot → Option ℕ
unused_view None = none
unused_view (Some k) = some k.0

-- ---- a search that has passed m unused slots from k on: they stand before what is left as one item
module _ (n k m : ℕ) where
  -- enough
  lowest-full : (xs : List Item) → n ≤ m → lowest_unused n (stale k m ∷ xs) ≡ some k
  unfolding lowest_unused starts_unused unused_first item_slot first_if
  lowest-full xs h = rw (le-leb n (m + unused_first xs) (omega arith))

  module _ (few : m < n) where
    lowest-end : lowest_unused n (stale k m ∷ []) ≡ none
    unfolding lowest_unused starts_unused unused_first first_if
    lowest-end = rw (lt-leb n (m + 0) (omega arith))

    lowest-entry : (e : Entry) (xs : List Item) → lowest_unused n (stale k m ∷ entry e ∷ xs) ≡ lowest_unused n xs
    unfolding lowest_unused starts_unused unused_first first_if
    lowest-entry e xs = rw (lt-leb n (m + 0) (omega arith), lt-leb n 0 (omega arith))

-- more of them
lowest-more : (n k m j g : ℕ) (xs : List Item) → lowest_unused n (stale k m ∷ stale j g ∷ xs) ≡ lowest_unused n (stale k (m + g) ∷ xs)
unfolding lowest_unused starts_unused unused_first first_if item_slot
lowest-more n k m j g xs = by (dec_le n (m + (g + unused_first xs)))
  where
    by : Dec (n ≤ m + (g + unused_first xs)) → lowest_unused n (stale k m ∷ stale j g ∷ xs) ≡ lowest_unused n (stale k (m + g) ∷ xs)
    by (yes h) = rw (le-leb n (m + (g + unused_first xs)) h, le-leb n (m + g + unused_first xs) (omega arith))
    by (no h) =
        rw (
          lt-leb n (m + (g + unused_first xs)) (omega arith),
          lt-leb n (m + g + unused_first xs) (omega arith),
          lt-leb n (g + unused_first xs) (omega arith),
        )

-- one unused slot is as one that is left over
lowest-one : (n k m j : ℕ) (xs : List Item) → lowest_unused n (stale k m ∷ unused j ∷ xs) ≡ lowest_unused n (stale k m ∷ stale j 1 ∷ xs)
unfolding lowest_unused starts_unused unused_first first_if item_slot
lowest-one n k m j xs = refl

lowest-nothing : (n : ℕ) → lowest_unused n [] ≡ none
unfolding lowest_unused
lowest-nothing n = refl

entry_first : (n : ℕ) (e : Entry) (xs : List Item) → 1 ≤ n → lowest_unused n (entry e ∷ xs) ≡ lowest_unused n xs
unfolding lowest_unused starts_unused unused_first first_if
entry_first n e xs h = rw (lt-leb n 0 (omega arith))

lowest-first : (n : ℕ) (i : Item) (xs : List Item) → n ≤ unused_first (i ∷ xs) → lowest_unused n (i ∷ xs) ≡ some (item_slot i)
unfolding lowest_unused starts_unused first_if
lowest-first n i xs h = rw (le-leb n (unused_first (i ∷ xs)) h)

-- none of them yet
nothing-first : (k : ℕ) (is : List Item) → unused_first (stale k 0 ∷ is) ≡ unused_first is
unfolding unused_first
nothing-first k is = omega arith

module _ (n k : ℕ) (is : List Item) where
  lowest-here : n ≤ unused_first is → lowest_unused n (stale k 0 ∷ is) ≡ some k
  unfolding lowest_unused starts_unused first_if item_slot
  lowest-here h = rw (nothing-first k is, le-leb n (unused_first is) h)

  lowest-past : unused_first is < n → lowest_unused n (stale k 0 ∷ is) ≡ lowest_unused n is
  unfolding lowest_unused starts_unused first_if
  lowest-past h = rw (nothing-first k is, lt-leb n (unused_first is) h)

-- ---- the items from a cursor on, one step at a time
module _ (ed : Edition) (left k : ℕ) (a : List ℕ) where
  first_slot : item_slot (item_at ed left k a) ≡ k
  unfolding item_at run_at unusable_item item_slot entry_at unusable_at
  first_slot =
      let P : Item → Type 0 = λ i. item_slot i ≡ k in
      pick-both P _ _ _ refl
      (pick-both P _ _ _ (pick-both P _ _ _ refl refl) (pick-both P _ _ _ (pick-both P _ _ _ refl refl) (pick-both P _ _ _ refl refl)))

  -- a gap adds its slots
  gap-adds : (n first m : ℕ) (xs : List Item) → lowest_unused n (stale first m ∷ gap_at ed left k a ∷ xs) ≡ lowest_unused n (stale first (m + gap_slots ed left a) ∷ xs)
  unfolding gap_at gap_slots pick
  gap-adds n first m xs = by (stale_type ed (byte_at a 0))
    where
      by : (b : Bool) → lowest_unused n (stale first m ∷ pick b (stale k (stale_slots ed left a)) (unused k) ∷ xs) ≡ lowest_unused n (stale first (m + pick b (stale_slots ed left a) 1) ∷ xs)
      by true = lowest-more n first m k (stale_slots ed left a) xs
      by false = lowest-one n first m k xs ∙ lowest-more n first m k 1 xs

module _ (s : List ℕ) (c : Cursor) (walks : Walks s c) (more : 0 < c.left) where
  abbrev ed : Edition
  ed = edition_view c.edition

  over-entry : entry_type ed (get_or s c.at.0 0) ≡ true → (m : ℕ) → m ≡ step_slots ed c.left (drop c.at.0 s) → (d : Cursor) → Past c m d
      → items_from s c ≡ entry (head_of ed c.slot.0 (drop c.at.0 s)) ∷ items_from s d
  over-entry t m count d past =
      let a : List ℕ = drop c.at.0 s in
      let e : Entry = head_of ed c.slot.0 a in
      let u : entry_type ed (byte_at a 0) ≡ true = ap (entry_type ed) (type-drop s c.at.0) ∙ t in
      let whole : m ≡ e.slots = count ∙ step-entry ed c.left a c.slot.0 u in
      walk-entry ed c.left c.slot.0 a more e (sound-entry ed c.left c.slot.0 a more walks.sound u).item
      ∙ ap (λ (is : List Item). entry e ∷ is) (sym (rw whole at (past-items s c m d past)))

-- ---- the search from slot `first` on: all slots up to the cursor's are unused
abbrev pub lowest_from : ℕ → List ℕ → ℕ → Cursor → Option ℕ
lowest_from n s first c = lowest_unused n (stale first (c.slot.0 - first) ∷ items_from s c)

-- before the first of them
starts-at : (n k : ℕ) (i : Item) (xs : List Item) → item_slot i ≡ k → lowest_unused n (stale k 0 ∷ i ∷ xs) ≡ lowest_unused n (i ∷ xs)
starts-at n k i xs here = by (dec_le n (unused_first (i ∷ xs)))
  where
    by : Dec (n ≤ unused_first (i ∷ xs)) → lowest_unused n (stale k 0 ∷ i ∷ xs) ≡ lowest_unused n (i ∷ xs)
    by (yes h) = lowest-here n k (i ∷ xs) h ∙ sym (lowest-first n i xs h ∙ ap some here)
    by (no h) = lowest-past n k (i ∷ xs) (omega arith)

pub search-first : (n : ℕ) (s : List ℕ) (first : ℕ) (c : Cursor) → 1 ≤ n → first ≡ c.slot.0 → lowest_from n s first c ≡ lowest_unused n (items_from s c)
search-first n s first c low e =
    let z : c.slot.0 - first ≡ 0 = omega arith in
    rw (z, e) (by (dec_le 1 c.left))
  where
    ed : Edition
    ed = edition_view c.edition

    a : List ℕ
    a = drop c.at.0 s

    by : Dec (1 ≤ c.left) → lowest_unused n (stale c.slot.0 0 ∷ items_from s c) ≡ lowest_unused n (items_from s c)
    by (yes h) =
        let (is, f) = walk-head ed c.left c.slot.0 a h in
        rw f (starts-at n c.slot.0 (item_at ed c.left c.slot.0 a) is (first_slot ed c.left c.slot.0 a))
    by (no h) =
        let z : c.left ≡ 0 = omega arith in
        rw (z, walk_none ed c.slot.0 a) (lowest-end n c.slot.0 0 (omega arith) ∙ sym (lowest-nothing n))

module _ (n : ℕ) (s : List ℕ) (first : ℕ) (c : Cursor) (few : c.slot.0 - first < n) where
  pub search-end : c.left ≡ 0 → lowest_from n s first c ≡ none
  search-end z = rw (z, walk_none (edition_view c.edition) c.slot.0 (drop c.at.0 s)) (lowest-end n first (c.slot.0 - first) few)

  module _ (walks : Walks s c) (more : 0 < c.left) (m : ℕ) (count : m ≡ step_slots (edition_view c.edition) c.left (drop c.at.0 s)) (d : Cursor) (past : Past c m d) where
    pub search-entry : entry_type (edition_view c.edition) (get_or s c.at.0 0) ≡ true → lowest_unused n (items_from s d) ≡ lowest_from n s first c
    search-entry t =
        let e : Entry = head_of (edition_view c.edition) c.slot.0 (drop c.at.0 s) in
        sym (rw (over-entry s c walks more t m count d past) (lowest-entry n first (c.slot.0 - first) few e (items_from s d)))

    pub search-gap : first ≤ c.slot.0 → entry_type (edition_view c.edition) (get_or s c.at.0 0) ≡ false → lowest_from n s first d ≡ lowest_from n s first c
    search-gap low t =
        let ed : Edition = edition_view c.edition in
        let a : List ℕ = drop c.at.0 s in
        let p : ℕ = c.slot.0 - first in
        let g : m ≡ gap_slots ed c.left a = gap-count s c walks more m count d past t in
        let q : d.slot.0 - first ≡ p + gap_slots ed c.left a = omega (arith, past.slot, g) in
        let items : items_from s c ≡ gap_at ed c.left c.slot.0 a ∷ items_from s d =
        walk-gap ed c.left c.slot.0 a more (gap_is s c walks more m count d past t)
        ∙ ap (λ (is : List Item). gap_at ed c.left c.slot.0 a ∷ is) (sym (gap-behind s c walks more m count d past t)) in
        rw (q, items) (sym (gap-adds ed c.left c.slot.0 a n first p (items_from s d)))

pub search-full : (n : ℕ) (s : List ℕ) (first : ℕ) (c : Cursor) → n ≤ c.slot.0 - first → lowest_from n s first c ≡ some first
search-full n s first c h = lowest-full n first (c.slot.0 - first) (items_from s c) h

-- an entry at the front does not matter
pub lowest-behind : (s : List ℕ) (c : Cursor) → Walks s c → 0 < c.left → (m : ℕ) → m ≡ step_slots (edition_view c.edition) c.left (drop c.at.0 s) → (d : Cursor) → Past c m d
    → entry_type (edition_view c.edition) (get_or s c.at.0 0) ≡ true → (n : ℕ) → 1 ≤ n → lowest_unused n (items_from s d) ≡ lowest_unused n (items_from s c)
lowest-behind s c w more m count d past t n h =
    sym (rw (over-entry s c w more t m count d past) (entry_first n (head_of (edition_view c.edition) c.slot.0 (drop c.at.0 s)) (items_from s d) h))
