-- What the walk depends on: the bytes of its slots and nothing behind them; and slot numbers only shift.
use Rattle.std.specs.Prelude.{ℕ, zero, suc, ◌+◌, ◌-◌, ◌*◌, ◌≤◌, ◌<◌, ◌≡◌, false, List, get_or, take, drop}
use Rattle.std.proofs.Math.Path.{refl, sym, ap}
use Rattle.std.proofs.Common.{◌∙◌, arith, get_or-take, take-take}
use Rattle.std.proofs.Math.Decide.{dec_le}
use borrow.Author.Tests.{lt-leb}
use Rattle.rules.specs.Lists.Laws.{pick-false, and_left, drop-take}
use Rattle.rules.specs.Fields.{byte_at, le, stamp_in}
use Rattle.rules.specs.Fields.Laws.{le-ext}
use Rattle.rules.specs.Editions.{Edition}
use Rattle.rules.specs.Editions.Laws.{sum-short}
use Rattle.rules.specs.Index.{Item, item_at, run_at, entry_at, unusable_at, file_field, followed, run_slots, run_field, run_whole, unusable_item, stale_slots, slot_bytes, name_field, count_at, stamp_at, start_at, end_at, length_at, unusable_start_at, unusable_end_at}
use Rattle.rules.specs.Index.Walk.{walk_all, walk_none, walk_step, followed-ext, slots_of, slots-pos}

-- two lists that begin alike
module _ (n : ℕ) (a b : List ℕ) (same : take n a ≡ take n b) where
  pub get_or-same : (i : ℕ) → i < n → get_or a i 0 ≡ get_or b i 0
  get_or-same i h = sym (get_or-take n a i 0 h) ∙ ap (λ (x : List ℕ). get_or x i 0) same ∙ get_or-take n b i 0 h

  pub byte-same : (i : ℕ) → i < n → byte_at a i ≡ byte_at b i
  unfolding byte_at
  byte-same i h = get_or-same i h

  pub le_same : (w at : ℕ) → at + w ≤ n → le w a at ≡ le w b at
  le_same w at h = le-ext w a b at at (λ i l. get_or-same (at + i) (omega arith))

  pub take_same : (m : ℕ) → m ≤ n → take m a ≡ take m b
  take_same m h = sym (take-take m n a h) ∙ ap (take m) same ∙ take-take m n b h

-- a run that does not fit is not whole
pub run-unfit : (ed : Edition) (left : ℕ) (a : List ℕ) → left < run_slots ed a → run_whole ed left a ≡ false
unfolding run_whole
run-unfit ed left a l = and_left _ _ (lt-leb (run_slots ed a) left l)

-- what an item reads
module _ (ed : Edition) (left k : ℕ) (a b : List ℕ) (more : 0 < left) (same : take (slot_bytes * left) a ≡ take (slot_bytes * left) b) where
  type-same : byte_at a 0 ≡ byte_at b 0
  type-same = byte-same (slot_bytes * left) a b same 0 (omega arith)

  pub slots_same : run_slots ed a ≡ run_slots ed b
  unfolding run_slots
  slots_same = ap (λ (c : ℕ). 1 + c) (byte-same (slot_bytes * left) a b same (count_at ed) (omega (arith, sum-short ed)))

  number_same : (at : ℕ) → at + 8 ≤ 64 → le 8 a at ≡ le 8 b at
  number_same at h = le_same (slot_bytes * left) a b same 8 at (omega arith)

  field-same : (at : ℕ) → at + 8 ≤ 64 → file_field a at ≡ file_field b at
  unfolding file_field
  field-same at h = rw (type-same, number_same at h)

  stamp-same : stamp_in a (stamp_at ed) ≡ stamp_in b (stamp_at ed)
  unfolding stamp_in
  stamp-same = rw (number_same (stamp_at ed) (omega (arith, sum-short ed)))

  run-field-same : run_slots ed a ≤ left → run_field ed a ≡ run_field ed b
  unfolding run_field
  run-field-same h = rw (← slots_same, take_same (slot_bytes * left) a b same (slot_bytes * run_slots ed a) (omega arith))

  name-same : run_slots ed a ≤ left → name_field ed a ≡ name_field ed b
  unfolding name_field
  name-same h = rw (type-same, run-field-same h)

  entry-same : run_slots ed a ≤ left → entry_at ed k a ≡ entry_at ed k b
  unfolding entry_at
  entry-same h =
      let short = sum-short ed in
      rw (
        type-same,
        slots_same,
        stamp-same,
        field-same (start_at ed) (omega (arith, short)),
        field-same (end_at ed) (omega (arith, short)),
        field-same (length_at ed) (omega (arith, short)),
        name-same h,
      )

  whole_same : Dec (run_slots ed a ≤ left) → run_whole ed left a ≡ run_whole ed left b
  unfolding run_whole
  whole_same (yes h) = rw (slots_same, run-field-same h)
  whole_same (no h) = rw (← slots_same, lt-leb (run_slots ed a) left (omega arith))

  run-same : Dec (run_slots ed a ≤ left) → run_at ed left k a ≡ run_at ed left k b
  unfolding run_at
  run-same (yes h) = rw (entry-same h, name-same h, whole_same (yes h))
  run-same (no h) =
      rw (run-unfit ed left a (omega arith), run-unfit ed left b (omega (arith, slots_same)))
      (pick-false _ _ refl ∙ sym (pick-false _ _ refl))

  unusable-same : unusable_item ed k a ≡ unusable_item ed k b
  unfolding unusable_item unusable_at
  unusable-same =
      rw (
        take_same (slot_bytes * left) a b same slot_bytes (omega arith),
        number_same unusable_start_at (omega arith),
        number_same unusable_end_at (omega arith),
      )

  stale-same : stale_slots ed left a ≡ stale_slots ed left b
  unfolding stale_slots
  stale-same = rw (type-same, whole_same (dec_le (run_slots ed a) left), slots_same)

  pub item-same : item_at ed left k a ≡ item_at ed left k b
  unfolding item_at
  item-same = rw (type-same, stale-same, run-same (dec_le (run_slots ed a) left), unusable-same)

-- the same slots from there on
rest-same : (left n : ℕ) (a b : List ℕ) → take (slot_bytes * left) a ≡ take (slot_bytes * left) b → n ≤ left
    → take (slot_bytes * (left - n)) (drop (slot_bytes * n) a) ≡ take (slot_bytes * (left - n)) (drop (slot_bytes * n) b)
rest-same left n a b e h =
    let s : slot_bytes * left ≡ slot_bytes * n + slot_bytes * (left - n) = omega arith in
    let d : (x : List ℕ) → drop (slot_bytes * n) (take (slot_bytes * left) x) ≡ take (slot_bytes * (left - n)) (drop (slot_bytes * n) x) =
    λ x. rw s (drop-take (slot_bytes * n) (slot_bytes * (left - n)) x) in
    sym (d a) ∙ ap (drop (slot_bytes * n)) e ∙ d b

walk-same-by : (ed : Edition) (f left k : ℕ) (a b : List ℕ) → left ≤ f → take (slot_bytes * left) a ≡ take (slot_bytes * left) b → walk_all ed left k a ≡ walk_all ed left k b
walk-same-by ed zero zero k a b p e = walk_none ed k a ∙ sym (walk_none ed k b)
walk-same-by ed zero (suc left) k a b p e = absurd (omega arith)
walk-same-by ed (suc f) zero k a b p e = walk_none ed k a ∙ sym (walk_none ed k b)
walk-same-by ed (suc f) (suc left) k a b p e =
    walk_step ed (suc left) k a (omega arith)
    ∙ followed-ext i _ _ (go (λ l j x y. walk-same-by ed f l j x y) (dec_le n (suc left)))
    ∙ ap (λ (x : Item). followed x (λ m. walk_all ed (suc left - m) (k + m) (drop (slot_bytes * m) b))) (item-same ed (suc left) k a b (omega arith) e)
    ∙ sym (walk_step ed (suc left) k b (omega arith))
  where
    i : Item
    i = item_at ed (suc left) k a

    n : ℕ
    n = slots_of i

    pos : 1 ≤ n
    pos = slots-pos ed (suc left) k a

    go : ((l j : ℕ) (x y : List ℕ) → l ≤ f → take (slot_bytes * l) x ≡ take (slot_bytes * l) y → walk_all ed l j x ≡ walk_all ed l j y)
        → Dec (n ≤ suc left)
        → walk_all ed (suc left - n) (k + n) (drop (slot_bytes * n) a) ≡ walk_all ed (suc left - n) (k + n) (drop (slot_bytes * n) b)
    go rec (yes h) = rec (suc left - n) (k + n) (drop (slot_bytes * n) a) (drop (slot_bytes * n) b) (omega (arith, pos)) (rest-same (suc left) n a b e h)
    go rec (no h) =
        let z : suc left - n ≡ 0 = omega arith in
        rw z (walk_none ed _ _ ∙ sym (walk_none ed _ _))

-- the walk of so many slots reads those slots and nothing behind them
pub walk_same : (ed : Edition) (left k : ℕ) (a b : List ℕ) → take (slot_bytes * left) a ≡ take (slot_bytes * left) b → walk_all ed left k a ≡ walk_all ed left k b
walk_same ed left k a b e = walk-same-by ed left left k a b (omega arith) e
