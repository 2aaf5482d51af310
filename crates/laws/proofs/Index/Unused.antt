-- Unused slots: as they are stored, and the lowest ones that hold a run.
use Prim.Native.Nat.{ℕ, zero, suc, ◌+◌, ◌-◌, ◌*◌, ◌≤◌}
use mathlib.Core.Path.{◌≡◌, refl, sym, ap, ap₂, subst, ◌∙◌}
use mathlib.Core.Bool.{Bool, true, false}
use mathlib.Core.List.{List, [], ◌∷◌, ◌++◌, append_assoc, append-nil}
use mathlib.Core.Option.{some}
use native.Mathlib.Omega.{arith}
use lib.ListN.{drop}
use borrow.Author.Tests.{le-leb, leb-true}
use Rattle.rules.specs.Lists.{pick, all, first_if, padded}
use Rattle.rules.specs.Lists.Laws.{clash}
use Rattle.rules.specs.Fields.{byte_at}
use Rattle.rules.specs.Editions.{Edition, edition10, edition110, by_edition, keeps_deleted, takes_stray, before_directories}
use Rattle.rules.specs.Index.{Entry, Item, unused, stale, entry, fault, item_at, is_fault, followed, walk, entries_of, entry_bytes, unused_bytes, type_unused, slot_bytes, run_type, directory_type, file_type, deleted_type, stray_type, stale_type}
use Rattle.rules.specs.Index.Laws.{length-bare}
use Rattle.rules.specs.Index.Walk.{walk_all, walk_none, slots_of, pick-both}
use Rattle.rules.specs.Writing.{unused_first, starts_unused, item_slot, lowest_unused, is_above, items_before, places_for}
use Rattle.laws.proofs.Lists.Parts.{some_same, none-some, all-parts}
use Rattle.laws.proofs.Index.Items.{slots_in, slots_in-nil, slots_in-cons, NoFault, is_tidy, IsTidy}
use Rattle.laws.proofs.Index.Walks.{walk-append, walk_first, walk-rest, walk_split}
use Rattle.laws.proofs.Index.Places.{before-sound, item-slot, slot-there}
pub use Rattle.rules.specs.Index.Laws.{length-unused_bytes}
unfoldable pub use Rattle.rules.specs.Index.Laws.{unused_from}

pub unused_from-sound : (k m : ℕ) → NoFault (unused_from k m)
unfolding unused_from all is_fault
unused_from-sound k zero = refl
unused_from-sound k (suc m) = unused_from-sound (k + 1) m

pub unused_from-tidy : (k m : ℕ) → IsTidy (unused_from k m)
unfolding unused_from all is_tidy
unused_from-tidy k zero = refl
unused_from-tidy k (suc m) = unused_from-tidy (k + 1) m

pub unused_from-slots : (k m : ℕ) → slots_in (unused_from k m) ≡ m
unfolding unused_from slots_of
unused_from-slots k zero = slots_in-nil
unused_from-slots k (suc m) = slots_in-cons (unused k) (unused_from (k + 1) m) ∙ omega (arith, unused_from-slots (k + 1) m)

pub unused_from-entries : (k m : ℕ) → entries_of (unused_from k m) ≡ []
unfolding unused_from entries_of
unused_from-entries k zero = refl
unused_from-entries k (suc m) = unused_from-entries (k + 1) m

-- ---- as they are stored
walk-one-unused : (ed : Edition) (k : ℕ) → walk_all ed 1 k (entry_bytes ed type_unused [] slot_bytes) ≡ unused k ∷ []
unfolding walk_all walk item_at followed pick entry_bytes padded byte_at by_edition keeps_deleted takes_stray stale_type deleted_type run_type directory_type file_type stray_type
walk-one-unused edition10 k = refl
walk-one-unused edition110 k = refl

pub walk-unused_bytes : (ed : Edition) (k m : ℕ) → walk_all ed m k (unused_bytes ed m) ≡ unused_from k m
unfolding unused_from unused_bytes is_tidy all
walk-unused_bytes ed k zero = walk_none ed k []
walk-unused_bytes ed k (suc m) =
    let e : suc m ≡ 1 + m = omega arith in
    let one = walk-one-unused ed k in
    ap (λ (j : ℕ). walk_all ed j k (entry_bytes ed type_unused [] slot_bytes ++ unused_bytes ed m)) e
    ∙ walk-append ed 1 m k (entry_bytes ed type_unused [] slot_bytes) (unused_bytes ed m) (length-bare ed type_unused) (rw one)
    ∙ rw one (ap (λ (is : List Item). unused k ∷ is) (walk-unused_bytes ed (k + 1) m))

-- ---- the lowest that hold a run
-- items with m slots at least, all unused: what is left over of a deleted run may have more. Without such they are m unused slots.
pub record Gap (m k : ℕ) (is : List Item) : Type 0 where
  pub room : m ≤ slots_in is
  pub empty : entries_of is ≡ []
  pub sound : NoFault is
  pub plain : IsTidy is → is ≡ unused_from k m

gap-none : (k : ℕ) → Gap 0 k []
unfolding unused_from entries_of all
gap-none k = record { room = omega arith; empty = refl; sound = refl; plain = λ t. refl }

gap-unused : (m k : ℕ) (is : List Item) → Gap m (k + 1) is → Gap (suc m) k (unused k ∷ is)
unfolding unused_from entries_of all is_fault is_tidy slots_of
gap-unused m k is g = record {
  room = omega (arith, slots_in-cons (unused k) is, g.room);
  empty = g.empty;
  sound = g.sound;
  plain = λ t. ap (λ (js : List Item). unused k ∷ js) (g.plain t);
}

gap-stale : (m j k n : ℕ) (is : List Item) → Gap (m - n) (k + n) is → Gap m k (stale j n ∷ is)
unfolding entries_of all is_fault is_tidy slots_of
gap-stale m j k n is g = record {
  room = omega (arith, slots_in-cons (stale j n) is, g.room);
  empty = g.empty;
  sound = g.sound;
  plain = λ t. clash (sym t);
}

-- items that start with m unused slots
pub record Starts (m k : ℕ) (is : List Item) : Type 0 where
  pub mid : List Item
  pub post : List Item
  pub split : is ≡ mid ++ post
  pub gap : Gap m k mid

start_none : (k : ℕ) (is : List Item) → Starts 0 k is
start_none k is = record { mid = []; post = is; split = refl; gap = gap-none k }

pub unused-start : (ed : Edition) (is : List Item) (m left k : ℕ) (a : List ℕ) → walk_all ed left k a ≡ is → starts_unused m is ≡ true → Starts m k is
unfolding starts_unused unused_first item_slot is_fault slots_of
unused-start ed [] zero left k a e s = start_none k []
unused-start ed [] (suc m) left k a e s = absurd (omega (arith, leb-true (suc m) 0 s))
unused-start ed (i ∷ is) zero left k a e s = start_none k (i ∷ is)
unused-start ed (entry x ∷ is) (suc m) left k a e s = absurd (omega (arith, leb-true (suc m) 0 s))
unused-start ed (fault j ∷ is) (suc m) left k a e s = absurd (omega (arith, leb-true (suc m) 0 s))
unused-start ed (unused j ∷ is) (suc m) left k a e s =
    let more : m ≤ unused_first is = omega (arith, leb-true (suc m) (1 + unused_first is) s) in
    let rec = unused-start ed is m (left - 1) (k + 1) (drop slot_bytes a) (walk-rest ed left k a (unused j) is e refl) (le-leb m (unused_first is) more) in
    let here : j ≡ k = sym (ap item_slot (walk_first ed left k a (unused j) is e)) ∙ item-slot ed left k a in
    record {
      mid = unused k ∷ rec.mid;
      post = rec.post;
      split = ap₂ (λ (i : ℕ) (js : List Item). unused i ∷ js) here rec.split;
      gap = gap-unused m k rec.mid rec.gap;
    }
unused-start ed (stale j n ∷ is) (suc m) left k a e s =
    let more : suc m - n ≤ unused_first is = omega (arith, leb-true (suc m) (n + unused_first is) s) in
    let rest = walk-rest ed left k a (stale j n) is e refl in
    let rec = unused-start ed is (suc m - n) (left - n) (k + n) (drop (slot_bytes * n) a) rest (le-leb (suc m - n) (unused_first is) more) in
    record {
      mid = stale j n ∷ rec.mid;
      post = rec.post;
      split = ap (λ (js : List Item). stale j n ∷ js) rec.split;
      gap = gap-stale (suc m) j k n rec.mid rec.gap;
    }

-- an item with m unused ones from it on
record Start (m k : ℕ) (is : List Item) : Type 0 where
  pre : List Item
  item : Item
  post : List Item
  split : is ≡ pre ++ (item ∷ post)
  slot : item_slot item ≡ k
  starts : starts_unused m (item ∷ post) ≡ true

lowest_start : (m k : ℕ) (is : List Item) → lowest_unused m is ≡ some k → Start m k is
unfolding lowest_unused first_if
lowest_start m k [] l = none-some k l
lowest_start m k (i ∷ is) l = by (starts_unused m (i ∷ is)) refl (λ g. lowest_start m k is g)
  where
    by : (t : Bool) → starts_unused m (i ∷ is) ≡ t → (lowest_unused m is ≡ some k → Start m k is) → Start m k (i ∷ is)
    by true q rec = record {
      pre = [];
      item = i;
      post = is;
      split = refl;
      slot = some_same (item_slot i) k (rw q at l);
      starts = q;
    }
    by false q rec =
        let f = rec (rw q at l) in
        record {
          pre = i ∷ f.pre;
          item = f.item;
          post = f.post;
          split = ap (λ (js : List Item). i ∷ js) f.split;
          slot = f.slot;
          starts = f.starts;
        }

-- m unused slots from slot k on, among the items that start with slot j
pub record UnusedRun (m j k : ℕ) (is : List Item) : Type 0 where
  pub pre : List Item
  pub mid : List Item
  pub post : List Item
  pub split : is ≡ pre ++ (mid ++ post)
  pub place : k ≡ j + slots_in pre
  pub gap : Gap m k mid

-- unused slots that stand first do so whatever follows
unused-more : (is more : List Item) → unused_first is ≤ unused_first (is ++ more)
unfolding unused_first
unused-more [] more = omega arith
unused-more (unused k ∷ is) more = omega (arith, unused-more is more)
unused-more (stale k n ∷ is) more = omega (arith, unused-more is more)
unused-more (entry e ∷ is) more = omega arith
unused-more (fault k ∷ is) more = omega arith

starts_more : (m : ℕ) (is more : List Item) → starts_unused m is ≡ true → starts_unused m (is ++ more) ≡ true
unfolding starts_unused
starts_more m is more s = le-leb m (unused_first (is ++ more)) (omega (arith, leb-true m (unused_first is) s, unused-more is more))

-- sought among the first items of a walk
pub lowest-split : (ed : Edition) (m left j : ℕ) (a : List ℕ) (is more : List Item) (k : ℕ) → walk_all ed left j a ≡ is ++ more → lowest_unused m is ≡ some k → UnusedRun m j k (is ++ more)
lowest-split ed m left j a is more k e l =
    let f = lowest_start m k is l in
    let split : is ++ more ≡ f.pre ++ (f.item ∷ (f.post ++ more)) = ap (λ (js : List Item). js ++ more) f.split ∙ append_assoc f.pre (f.item ∷ f.post) more in
    let place : k ≡ j + slots_in f.pre = sym f.slot ∙ slot-there ed left j a f.pre f.item (f.post ++ more) (e ∙ split) in
    let parts = walk_split ed left j a f.pre (f.item ∷ (f.post ++ more)) (e ∙ split) (before-sound ed left j a f.pre f.item (f.post ++ more) (e ∙ split)) in
    let start = unused-start ed (f.item ∷ (f.post ++ more)) m _ _ _ parts.back (starts_more m (f.item ∷ f.post) more f.starts) in
    record {
      pre = f.pre;
      mid = start.mid;
      post = start.post;
      split = split ∙ ap (λ (js : List Item). f.pre ++ js) start.split;
      place = place;
      gap = subst (λ (i : ℕ). Gap m i start.mid) (sym place) start.gap;
    }

-- where a new entry may go is the first items
pub items-before : (p : Entry → Bool) (is : List Item) → (more : List Item) × (is ≡ items_before p is ++ more)
unfolding items_before pick
items-before p [] = ([], refl)
items-before p (unused k ∷ is) = let h = items-before p is in (h.0, ap (λ (js : List Item). unused k ∷ js) h.1)
items-before p (stale k n ∷ is) = let h = items-before p is in (h.0, ap (λ (js : List Item). stale k n ∷ js) h.1)
items-before p (fault k ∷ is) = let h = items-before p is in (h.0, ap (λ (js : List Item). fault k ∷ js) h.1)
items-before p (entry e ∷ is) = let h = items-before p is in by (p e) h.0 h.1
  where
    by : (b : Bool) (more : List Item) → is ≡ items_before p is ++ more → (rest : List Item) × (entry e ∷ is ≡ pick b [] (entry e ∷ items_before p is) ++ rest)
    by true more h = (entry e ∷ is, refl)
    by false more h = (more, ap (λ (js : List Item). entry e ∷ js) h)

pub places-first : (ed : Edition) (path : List ℕ) (is : List Item) → (more : List Item) × (is ≡ places_for ed path is ++ more)
unfolding places_for
places-first ed path is =
    pick-both (λ xs. (more : List Item) × (is ≡ xs ++ more)) (before_directories ed) _ _ (items-before (is_above path) is) ([], sym (append-nil is))

-- with nothing left over they are so many unused items
pub unused-plain : (m j k : ℕ) (is : List Item) (r : UnusedRun m j k is) → IsTidy is → is ≡ r.pre ++ (unused_from k m ++ r.post)
unused-plain m j k is r t =
    let rest = (all-parts is_tidy r.pre (r.mid ++ r.post) (rw r.split at t)).1 in
    let mid = (all-parts is_tidy r.mid r.post rest).0 in
    r.split ∙ ap (λ (js : List Item). r.pre ++ (js ++ r.post)) (r.gap.plain mid)
