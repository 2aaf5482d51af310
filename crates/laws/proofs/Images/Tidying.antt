-- What is left over made unused, which every accepted writing call but format begins with: the image opens as before, with the same entries and bytes, and
-- nothing is left over. A new run is placed by the tidied index as by the index before.
use Prim.Native.Nat.{ℕ, zero, suc, ◌+◌, ◌-◌, ◌*◌, ◌≤◌}
use mathlib.Core.Path.{◌≡◌, refl, sym, ap, ◌∙◌}
use mathlib.Core.Bool.{Bool, true, false, not}
use mathlib.Core.List.{List, [], ◌∷◌, ◌++◌, append_assoc}
use native.Mathlib.Omega.{arith}
use lib.ListN.{length, drop}
use lib.Dec.{leb}
use borrow.Author.Tests.{leb-true, leb-false, le-leb, lt-leb}
use Rattle.rules.specs.Lists.{pick, all, first_if, All}
use Rattle.rules.specs.Lists.Laws.{clash, all_append, and-true, and_both}
use Rattle.rules.specs.Fields.{splice}
use Rattle.rules.specs.Editions.{Edition, keeps_deleted, before_directories}
use Rattle.rules.specs.SuperBlock.{Geometry}
use Rattle.rules.specs.SuperBlock.Laws.{GoodGeometry}
use Rattle.rules.specs.Index.{Entry, Item, unused, stale, entry, fault, is_fault, items_of, inner_slots, entries_of, slot_at, slot_bytes, unused_bytes}
use Rattle.rules.specs.Index.Walk.{walk_all, slots_of, slots-pos}
use Rattle.rules.specs.Refusals.{Volume, entries}
use Rattle.rules.specs.Refusals.Laws.{Opens, opens-super}
use Rattle.rules.specs.Reading.{file_bytes}
use Rattle.rules.specs.Regions.{region_good}
use Rattle.rules.specs.Writing.{tidied, item_slot, unused_first, starts_unused, lowest_unused, is_above, items_before, places_for}
use Rattle.rules.specs.Writing.Laws.{tidy_image}
use Rattle.laws.proofs.Lists.Every.{all-weaken, all-and}
use Rattle.laws.proofs.Lists.Parts.{all-parts}
use Rattle.laws.proofs.Lists.Spans.{but-none}
use Rattle.laws.proofs.Index.Items.{slots_in, slots_in-nil, slots_in-cons, NoFault, no_fault-cons, is_tidy, IsTidy, tidy-sound}
use Rattle.laws.proofs.Index.Walks.{walk_first, walk-rest}
use Rattle.laws.proofs.Index.Places.{entries_of-append, slot-there}
use Rattle.laws.proofs.Index.Slots.{items-walk}
use Rattle.laws.proofs.Index.Ends.{ends_good, ends-good}
use Rattle.laws.proofs.Index.Unused.{unused_from, unused_from-tidy, unused_from-entries, walk-unused_bytes, length-unused_bytes, places-first}
use Rattle.laws.proofs.Entries.Regions.{sound-says}
use Rattle.laws.proofs.Entries.Walked.{Bare, bare-entries}
use Rattle.laws.proofs.Images.Areas.{bytes-kept}
use Rattle.laws.proofs.Images.Inner.{Inner, inner-then, inner-between, inner-opens}
use Rattle.laws.proofs.Images.Indexes.{replaced-inner, replaced-items}
use Rattle.laws.proofs.Images.Clearing.{Cleared}
use Rattle.laws.proofs.Images.Placing.{opens-tidy}

-- ---- the items then
unfoldable pub settled : List Item → List Item
settled [] = []
settled (unused k ∷ is) = unused k ∷ settled is
settled (stale k n ∷ is) = unused_from k n ++ settled is
settled (entry e ∷ is) = entry e ∷ settled is
settled (fault k ∷ is) = fault k ∷ settled is

abbrev pub settled_volume : Volume → Volume
settled_volume v = record { geometry = v.geometry; items = settled v.items }

pub settled-entries : (is : List Item) → entries_of (settled is) ≡ entries_of is
unfolding settled entries_of
settled-entries [] = refl
settled-entries (unused k ∷ is) = settled-entries is
settled-entries (stale k n ∷ is) = entries_of-append (unused_from k n) (settled is) ∙ rw (unused_from-entries k n) (settled-entries is)
settled-entries (entry e ∷ is) = ap (λ (es : List Entry). e ∷ es) (settled-entries is)
settled-entries (fault k ∷ is) = settled-entries is

pub settled-tidy : (is : List Item) → NoFault is → IsTidy (settled is)
unfolding settled all is_fault is_tidy
settled-tidy [] s = refl
settled-tidy (unused k ∷ is) s = settled-tidy is s
settled-tidy (stale k n ∷ is) s = all_append is_tidy (unused_from k n) (settled is) ∙ and_both _ _ (unused_from-tidy k n) (settled-tidy is s)
settled-tidy (entry e ∷ is) s = settled-tidy is s
settled-tidy (fault k ∷ is) s = clash (sym s)

-- ---- where a new run goes
-- what is left over has a slot at least
unfoldable pub has_slots : Item → Bool
has_slots (unused k) = true
has_slots (stale k n) = leb 1 n
has_slots (entry e) = true
has_slots (fault k) = true

abbrev pub IsSlotted : List Item → Type 0
IsSlotted is = all has_slots is ≡ true

first-from : (k m : ℕ) (is : List Item) → unused_first (unused_from k m ++ is) ≡ m + unused_first is
unfolding unused_first unused_from
first-from k zero is = omega arith
first-from k (suc m) is = omega (arith, first-from (k + 1) m is)

first-settled : (is : List Item) → unused_first (settled is) ≡ unused_first is
unfolding unused_first settled
first-settled [] = refl
first-settled (unused k ∷ is) = ap (λ (n : ℕ). 1 + n) (first-settled is)
first-settled (stale k n ∷ is) = first-from k n (settled is) ∙ ap (λ (m : ℕ). n + m) (first-settled is)
first-settled (entry e ∷ is) = refl
first-settled (fault k ∷ is) = refl

-- too few unused slots in front are passed over
lowest-few : (n k m : ℕ) (is : List Item) → leb n (m + unused_first is) ≡ false → lowest_unused n (unused_from k m ++ is) ≡ lowest_unused n is
unfolding lowest_unused unused_from starts_unused first_if unused_first
lowest-few n k zero is f = refl
lowest-few n k (suc m) is f =
    let less = leb-false n (suc m + unused_first is) f in
    rw (lt-leb n (1 + unused_first (unused_from (k + 1) m ++ is)) (omega (arith, first-from (k + 1) m is)))
    (lowest-few n (k + 1) m is (lt-leb n (m + unused_first is) (omega arith)))

-- so many unused slots in front count as one item of so many
lowest-from : (n k m : ℕ) (is : List Item) → 1 ≤ m → lowest_unused n (unused_from k m ++ is) ≡ first_if (leb n (m + unused_first is)) k (lowest_unused n is)
unfolding lowest_unused unused_from starts_unused first_if unused_first item_slot
lowest-from n k zero is pos = absurd (omega arith)
lowest-from n k (suc m) is pos =
    let e : 1 + unused_first (unused_from (k + 1) m ++ is) ≡ suc m + unused_first is = omega (arith, first-from (k + 1) m is) in
    ap (λ (c : ℕ). first_if (leb n c) k (lowest_unused n (unused_from (k + 1) m ++ is))) e ∙ by (leb n (suc m + unused_first is)) refl
  where
    by : (b : Bool) → leb n (suc m + unused_first is) ≡ b → first_if b k (lowest_unused n (unused_from (k + 1) m ++ is)) ≡ first_if b k (lowest_unused n is)
    by true f = refl
    by false f = lowest-few n (k + 1) m is (lt-leb n (m + unused_first is) (omega (arith, leb-false n (suc m + unused_first is) f)))

lowest-settled : (n : ℕ) (is : List Item) → IsSlotted is → lowest_unused n (settled is) ≡ lowest_unused n is
unfolding lowest_unused settled starts_unused unused_first item_slot all has_slots
lowest-settled n [] h = refl
lowest-settled n (unused k ∷ is) h = rw (first-settled is, lowest-settled n is h)
lowest-settled n (stale k m ∷ is) h =
    let p = and-true (leb 1 m) (all has_slots is) h in
    lowest-from n k m (settled is) (leb-true 1 m p.0) ∙ rw (first-settled is, lowest-settled n is p.1)
lowest-settled n (entry e ∷ is) h = rw (lowest-settled n is h)
lowest-settled n (fault k ∷ is) h = rw (lowest-settled n is h)

before-from : (p : Entry → Bool) (k m : ℕ) (is : List Item) → items_before p (unused_from k m ++ is) ≡ unused_from k m ++ items_before p is
unfolding items_before unused_from
before-from p k zero is = refl
before-from p k (suc m) is = ap (λ (js : List Item). unused k ∷ js) (before-from p (k + 1) m is)

before-settled : (p : Entry → Bool) (is : List Item) → items_before p (settled is) ≡ settled (items_before p is)
unfolding items_before settled pick
before-settled p [] = refl
before-settled p (unused k ∷ is) = ap (λ (js : List Item). unused k ∷ js) (before-settled p is)
before-settled p (stale k n ∷ is) = before-from p k n (settled is) ∙ ap (λ (js : List Item). unused_from k n ++ js) (before-settled p is)
before-settled p (fault k ∷ is) = ap (λ (js : List Item). fault k ∷ js) (before-settled p is)
before-settled p (entry e ∷ is) = by (p e) (before-settled p is)
  where
    by : (b : Bool) → items_before p (settled is) ≡ settled (items_before p is) → pick b [] (entry e ∷ items_before p (settled is)) ≡ settled (pick b [] (entry e ∷ items_before p is))
    by true h = refl
    by false h = ap (λ (js : List Item). entry e ∷ js) h

places-settled : (ed : Edition) (path : List ℕ) (is : List Item) → places_for ed path (settled is) ≡ settled (places_for ed path is)
unfolding places_for pick
places-settled ed path is = by (before_directories ed)
  where
    by : (b : Bool) → pick b (items_before (is_above path) (settled is)) (settled is) ≡ settled (pick b (items_before (is_above path) is) is)
    by true = before-settled (is_above path) is
    by false = refl

-- the lowest unused slots are the same
pub settled-lowest : (n : ℕ) (ed : Edition) (path : List ℕ) (is : List Item) → IsSlotted is
    → lowest_unused n (places_for ed path (settled is)) ≡ lowest_unused n (places_for ed path is)
settled-lowest n ed path is h =
    let f = places-first ed path is in
    let q : IsSlotted (places_for ed path is ++ f.0) = ap (all has_slots) (sym f.1) ∙ h in
    ap (lowest_unused n) (places-settled ed path is) ∙ lowest-settled n (places_for ed path is) (all-parts has_slots (places_for ed path is) f.0 q).0

-- a walk gives what has slots
has-slots : (i : Item) → 1 ≤ slots_of i → has_slots i ≡ true
unfolding has_slots slots_of
has-slots (unused k) h = refl
has-slots (stale k n) h = le-leb 1 n h
has-slots (entry e) h = refl
has-slots (fault k) h = refl

walk-slotted : (ed : Edition) (left k : ℕ) (a : List ℕ) (is : List Item) → walk_all ed left k a ≡ is → NoFault is → IsSlotted is
unfolding all
walk-slotted ed left k a [] e s = refl
walk-slotted ed left k a (x ∷ is) e s =
    let fine = no_fault-cons x is s in
    let pos : 1 ≤ slots_of x = rw (walk_first ed left k a x is e) at (slots-pos ed left k a) in
    and_both (has_slots x) (all has_slots is) (has-slots x pos)
    (walk-slotted ed (left - slots_of x) (k + slots_of x) (drop (slot_bytes * slots_of x) a) is (walk-rest ed left k a x is e fine.0) fine.1)

-- ---- nothing left over
tidied-none : (s : List ℕ) (g : Geometry) (is : List Item) → IsTidy is → tidied s g is ≡ s
unfolding tidied all is_tidy
tidied-none s g [] t = refl
tidied-none s g (unused k ∷ is) t = tidied-none s g is t
tidied-none s g (stale k n ∷ is) t = clash (sym t)
tidied-none s g (entry e ∷ is) t = tidied-none s g is t
tidied-none s g (fault k ∷ is) t = clash (sym t)

pub tidied-tidy : (s : List ℕ) (v : Volume) → IsTidy v.items → tidy_image s v ≡ s
tidied-tidy s v t = tidied-none s v.geometry v.items t

-- ---- the writes, front to back: what stands before one is tidy
-- what tidies the rest, for any image in which it stands behind `pre`
abbrev Rest : Geometry → List Item → Type 0
Rest g rest = (s : List ℕ) (pre : List Item) → GoodGeometry (length s) g → items_of s g ≡ pre ++ rest → IsTidy pre → NoFault rest
    → Cleared s (tidied s g rest) g (pre ++ settled rest)

-- one item was taken care of: `mid` stands for it
turn : (g : Geometry) (rest : List Item) → Rest g rest → (s t : List ℕ) (pre mid : List Item) → GoodGeometry (length s) g → Inner s t g
    → items_of t g ≡ pre ++ (mid ++ rest) → IsTidy pre → IsTidy mid → NoFault rest → Cleared s (tidied t g rest) g (pre ++ (mid ++ settled rest))
turn g rest rec s t pre mid good i here before neat fine =
    let c = rec t (pre ++ mid) (rw i.long good) (here ∙ sym (append_assoc pre mid rest)) (all_append is_tidy pre mid ∙ and_both _ _ before neat) fine in
    record {
      inner = inner-then s t (tidied t g rest) g i c.inner;
      items = c.items ∙ append_assoc pre mid (settled rest);
    }

-- one that is left over
module _ (s : List ℕ) (g : Geometry) (good : GoodGeometry (length s) g) (k n : ℕ) (pre rest : List Item) (here : items_of s g ≡ pre ++ (stale k n ∷ rest)) (before : IsTidy pre) (fine : NoFault rest) where
  slot_is : k ≡ 1 + slots_in pre
  unfolding item_slot
  slot_is = slot-there g.edition (inner_slots g) 1 (drop (slot_at s g 1) s) pre (stale k n) rest (sym (items-walk s g) ∙ here)

  sound : NoFault (pre ++ (stale k n ∷ rest))
  unfolding all is_fault
  sound = all_append (λ i. not (is_fault i)) pre (stale k n ∷ rest) ∙ and_both _ _ (tidy-sound pre before) fine

  slots-are : slots_in (stale k n ∷ []) ≡ n
  unfolding slots_of
  slots-are = slots_in-cons (stale k n) [] ∙ omega (arith, slots_in-nil)

  full : length (unused_bytes g.edition n) ≡ slot_bytes * slots_in (stale k n ∷ [])
  full = length-unused_bytes g.edition n ∙ rw slots-are

  walked : walk_all g.edition (slots_in (stale k n ∷ [])) (1 + slots_in pre) (unused_bytes g.edition n) ≡ unused_from k n
  walked = rw (slots-are, ← slot_is) (walk-unused_bytes g.edition k n)

  stale-inner : Inner s (splice s (slot_at s g k) (unused_bytes g.edition n)) g
  stale-inner = rw slot_is (replaced-inner s g good pre (stale k n ∷ []) rest here sound (unused_bytes g.edition n) full)

  stale-items : items_of (splice s (slot_at s g k) (unused_bytes g.edition n)) g ≡ pre ++ (unused_from k n ++ rest)
  stale-items =
      ap (λ (j : ℕ). items_of (splice s (slot_at s g j) (unused_bytes g.edition n)) g) slot_is
      ∙ replaced-items s g good pre (stale k n ∷ []) rest here sound (unused_bytes g.edition n) full before (rw walked (unused_from-tidy k n))
      ∙ rw walked

tidy-rest : (g : Geometry) (rest : List Item) → Rest g rest
unfolding tidied settled all is_fault is_tidy
tidy-rest g [] s pre good here before fine = record { inner = but-none _ _ s; items = here }
tidy-rest g (unused k ∷ rest) s pre good here before fine = turn g rest (tidy-rest g rest) s s pre (unused k ∷ []) good (but-none _ _ s) here before refl fine
tidy-rest g (entry e ∷ rest) s pre good here before fine = turn g rest (tidy-rest g rest) s s pre (entry e ∷ []) good (but-none _ _ s) here before refl fine
tidy-rest g (fault k ∷ rest) s pre good here before fine = clash (sym fine)
tidy-rest g (stale k n ∷ rest) s pre good here before fine =
    turn g rest (tidy-rest g rest) s (splice s (slot_at s g k) (unused_bytes g.edition n)) pre (unused_from k n) good
    (stale-inner s g good k n pre rest here before fine) (stale-items s g good k n pre rest here before fine) before (unused_from-tidy k n) fine

-- ---- an image that opens
module _ (s : List ℕ) (v : Volume) (o : Opens s v) where
  ends : (ends_good s v.geometry ≡ true) × NoFault v.items
  ends = ends-good s v.geometry v.items o.index-sound

  pub opens-slotted : IsSlotted v.items
  opens-slotted = walk-slotted v.geometry.edition (inner_slots v.geometry) 1 _ v.items (sym (items-walk s v.geometry) ∙ sym o.items-are) ends.1

  pub tidied-kept : keeps_deleted v.geometry.edition ≡ true → tidy_image s v ≡ s
  tidied-kept keeps = tidied-tidy s v (opens-tidy s v o keeps)

  -- nothing is left over in what it becomes
  pub opens-settled : IsTidy (settled v.items)
  opens-settled = settled-tidy v.items ends.1

  done : Cleared s (tidy_image s v) v.geometry (settled v.items)
  unfolding all
  done = tidy-rest v.geometry v.items s [] o.geometry-good (sym o.items-are) refl ends.1

  -- the writes lie between the start marker and the volume identifier
  pub tidied-inner : Inner s (tidy_image s v) v.geometry
  tidied-inner = done.inner

  pub tidied-length : length (tidy_image s v) ≡ length s
  tidied-length = tidied-inner.long

  pub tidied-opens : Opens (tidy_image s v) (settled_volume v)
  tidied-opens =
      inner-opens s (tidy_image s v) v.geometry o.geometry-good tidied-inner (settled v.items) (opens-super s v o) ends.0 done.items
      (tidy-sound (settled v.items) opens-settled) (rw (settled-entries v.items) o.regions-sound) (rw (settled-entries v.items) o.paths-sound)

  pub tidied-bytes : All (λ e. file_bytes (tidy_image s v) v.geometry e ≡ file_bytes s v.geometry e) (entries v)
  tidied-bytes =
      all-weaken (λ e. Bare e × (region_good v.geometry e ≡ true)) _
      (λ e q. bytes-kept s (tidy_image s v) v.geometry v.geometry e o.geometry-good (inner-between s (tidy_image s v) v.geometry o.geometry-good tidied-inner) refl q.0 q.1)
      (entries v)
      (all-and Bare _ (entries v) (bare-entries s v o) (sound-says v.geometry (entries v) o.regions-sound).each)
