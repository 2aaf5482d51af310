-- Slot numbers only shift: the walk from another first slot has the same items with other numbers.
use Prim.Native.Nat.{ℕ, zero, suc, ◌+◌, ◌-◌, ◌*◌, ◌≤◌}
use mathlib.Core.Path.{◌≡◌, refl, sym, ap, ◌∙◌}
use mathlib.Core.Bool.{Bool, true, false, ◌&&◌, not}
use mathlib.Core.List.{List, [], ◌∷◌, map}
use native.Mathlib.Omega.{arith}
use lib.ListN.{length, take, drop}
use lib.Dec.{eqb}
use Rattle.rules.specs.Lists.{pick, all}
use Rattle.rules.specs.Fields.{byte_at}
use Rattle.rules.specs.Editions.{Edition, sum_good}
use Rattle.rules.specs.Index.{Entry, Item, unused, stale, entry, fault, item_at, run_at, run_whole, unusable_item, stale_slots, stale_type, entry_at, unusable_at, followed, name_good, name_field, run_type, stray_type, type_unusable, slot_bytes, is_fault, entries_of}
use Rattle.rules.specs.Index.Walk.{walk_all, walk_none, walk_step, slots_of, slots-pos}

unfoldable pub shift_entry : ℕ → Entry → Entry
shift_entry d e = record {
  kind = e.kind;
  slot = e.slot + d;
  slots = e.slots;
  stamp = e.stamp;
  start = e.start;
  end = e.end;
  length = e.length;
  path = e.path;
}

unfoldable pub shift_item : ℕ → Item → Item
shift_item d (unused k) = unused (k + d)
shift_item d (stale k n) = stale (k + d) n
shift_item d (entry e) = entry (shift_entry d e)
shift_item d (fault k) = fault (k + d)

-- an item, by the six tests that it goes by
choose : Bool → Bool → Bool → Bool → Bool → Bool → Item → Item → Item → Item → Item → Item
choose o r s u g t over run unusable bad free = pick o over (pick r (pick s run bad) (pick u (pick g unusable bad) (pick t bad free)))

choose-map : (f : Item → Item) (o r s u g t : Bool) (over run unusable bad free : Item)
    → choose o r s u g t (f over) (f run) (f unusable) (f bad) (f free) ≡ f (choose o r s u g t over run unusable bad free)
unfolding choose pick
choose-map f true r s u g t over run unusable bad free = refl
choose-map f false true true u g t over run unusable bad free = refl
choose-map f false true false u g t over run unusable bad free = refl
choose-map f false false s true true t over run unusable bad free = refl
choose-map f false false s true false t over run unusable bad free = refl
choose-map f false false s false g true over run unusable bad free = refl
choose-map f false false s false g false over run unusable bad free = refl

item-shift : (ed : Edition) (d left k : ℕ) (a : List ℕ) → item_at ed left (k + d) a ≡ shift_item d (item_at ed left k a)
unfolding item_at run_at unusable_item choose shift_item shift_entry entry_at unusable_at
item-shift ed d left k a =
    choose-map (shift_item d) (stale_type ed (byte_at a 0)) (run_type (byte_at a 0)) (run_whole ed left a && name_good (name_field ed a)) (eqb (byte_at a 0) type_unusable)
    (sum_good ed (take slot_bytes a)) (stray_type (byte_at a 0))
    (stale k (stale_slots ed left a)) (entry (entry_at ed k a)) (entry (unusable_at ed k a)) (fault k) (unused k)

-- the items behind one shift too
followed-shift : (d : ℕ) (i : Item) (r q : ℕ → List Item) → q (slots_of i) ≡ map (shift_item d) (r (slots_of i)) → followed (shift_item d i) q ≡ map (shift_item d) (followed i r)
unfolding followed slots_of shift_item shift_entry
followed-shift d (unused k) r q e = ap (λ (is : List Item). unused (k + d) ∷ is) e
followed-shift d (stale k n) r q e = ap (λ (is : List Item). stale (k + d) n ∷ is) e
followed-shift d (entry x) r q e = ap (λ (is : List Item). entry (shift_entry d x) ∷ is) e
followed-shift d (fault k) r q e = refl

walk-shift-by : (ed : Edition) (f d left k : ℕ) (a : List ℕ) → left ≤ f → walk_all ed left (k + d) a ≡ map (shift_item d) (walk_all ed left k a)
walk-shift-by ed zero d zero k a p = simp (walk_none ed)
walk-shift-by ed zero d (suc left) k a p = absurd (omega arith)
walk-shift-by ed (suc f) d zero k a p = simp (walk_none ed)
walk-shift-by ed (suc f) d (suc left) k a p =
    let n : ℕ = slots_of (item_at ed (suc left) k a) in
    let pos : 1 ≤ n = slots-pos ed (suc left) k a in
    let e : k + n + d ≡ k + d + n = omega arith in
    walk_step ed (suc left) (k + d) a (omega arith)
    ∙ rw (item-shift ed d (suc left) k a)
    (followed-shift d (item_at ed (suc left) k a) _ _ (rw (← e) (walk-shift-by ed f d (suc left - n) (k + n) (drop (slot_bytes * n) a) (omega arith))))
    ∙ sym (ap (map (shift_item d)) (walk_step ed (suc left) k a (omega arith)))

pub walk-shift : (ed : Edition) (d left k : ℕ) (a : List ℕ) → walk_all ed left (k + d) a ≡ map (shift_item d) (walk_all ed left k a)
walk-shift ed d left k a = walk-shift-by ed left d left k a (omega arith)

-- the entries shift with their items
pub entries_of-shift : (d : ℕ) (is : List Item) → entries_of (map (shift_item d) is) ≡ map (shift_entry d) (entries_of is)
unfolding entries_of shift_item
entries_of-shift d [] = refl
entries_of-shift d (unused k ∷ is) = entries_of-shift d is
entries_of-shift d (stale k n ∷ is) = entries_of-shift d is
entries_of-shift d (entry e ∷ is) = ap (λ (es : List Entry). shift_entry d e ∷ es) (entries_of-shift d is)
entries_of-shift d (fault k ∷ is) = entries_of-shift d is

pub no_fault-shift : (d : ℕ) (is : List Item) → all (λ i. not (is_fault i)) (map (shift_item d) is) ≡ all (λ i. not (is_fault i)) is
unfolding all is_fault shift_item
no_fault-shift d [] = refl
no_fault-shift d (unused k ∷ is) = no_fault-shift d is
no_fault-shift d (stale k n ∷ is) = no_fault-shift d is
no_fault-shift d (entry e ∷ is) = no_fault-shift d is
no_fault-shift d (fault k ∷ is) = refl
