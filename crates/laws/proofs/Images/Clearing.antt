-- Clearing the runs of the entries that pass a test, one after the other: each becomes unused slots, and the other items are as they were. Of a tidy index, since
-- what is left over before a run that is cleared could become something else.
use Prim.Native.Nat.{ℕ}
use mathlib.Core.Path.{◌≡◌, refl, sym, ap, ◌∙◌}
use mathlib.Core.Bool.{Bool, true, false, not}
use mathlib.Core.List.{List, [], ◌∷◌, ◌++◌, append_assoc}
use lib.ListN.{length}
use Rattle.rules.specs.Lists.{pick, all, only, keep_if, All}
use Rattle.rules.specs.Lists.Laws.{pick_true, pick-false, all_append, and_both}
use Rattle.rules.specs.Fields.{splice}
use Rattle.rules.specs.SuperBlock.{Geometry}
use Rattle.rules.specs.SuperBlock.Laws.{GoodGeometry}
use Rattle.rules.specs.Index.{Entry, Item, unused, stale, entry, fault, is_fault, items_of, entries_of, slot_at, unused_bytes}
use Rattle.rules.specs.Writing.{run_cleared, cleared}
use Rattle.laws.proofs.Lists.Parts.{all-parts}
use Rattle.laws.proofs.Index.Items.{NoFault, no_fault-cons, is_tidy, IsTidy, tidy-sound, tidy-swap}
use Rattle.laws.proofs.Index.Places.{entries_of-append}
use Rattle.laws.proofs.Index.Unused.{unused_from, unused_from-sound, unused_from-tidy, unused_from-entries}
use Rattle.laws.proofs.Lists.Spans.{but-none}
use Rattle.laws.proofs.Images.Inner.{Inner, inner-then}
use Rattle.laws.proofs.Images.Indexes.{cleared-inner, cleared-items}

-- ---- what is left of the items
unfoldable pub cleared_item : (Entry → Bool) → Item → List Item
cleared_item p (unused k) = unused k ∷ []
cleared_item p (stale k n) = stale k n ∷ []
cleared_item p (entry e) = pick (p e) (unused_from e.slot e.slots) (entry e ∷ [])
cleared_item p (fault k) = fault k ∷ []

unfoldable pub cleared_items : (Entry → Bool) → List Item → List Item
cleared_items p [] = []
cleared_items p (i ∷ is) = cleared_item p i ++ cleared_items p is

entries-entry : (e : Entry) (b : Bool) (es : List Entry) → entries_of (pick b (unused_from e.slot e.slots) (entry e ∷ [])) ++ es ≡ keep_if (not b) e es
unfolding pick keep_if entries_of
entries-entry e true es = ap (λ (xs : List Entry). xs ++ es) (unused_from-entries e.slot e.slots)
entries-entry e false es = refl

pub record Cleared (s t : List ℕ) (g : Geometry) (is : List Item) : Type 0 where
  pub inner : Inner s t g
  pub items : items_of t g ≡ is

module _ (p : Entry → Bool) where
  -- the entries that do not pass
  pub cleared-entries : (is : List Item) → entries_of (cleared_items p is) ≡ only (λ e. not (p e)) (entries_of is)
  unfolding cleared_items cleared_item entries_of only
  cleared-entries [] = refl
  cleared-entries (unused k ∷ is) = cleared-entries is
  cleared-entries (stale k n ∷ is) = cleared-entries is
  cleared-entries (fault k ∷ is) = cleared-entries is
  cleared-entries (entry e ∷ is) =
      entries_of-append (cleared_item p (entry e)) (cleared_items p is)
      ∙ ap (λ (es : List Entry). entries_of (cleared_item p (entry e)) ++ es) (cleared-entries is)
      ∙ entries-entry e (p e) (only (λ x. not (p x)) (entries_of is))

  -- without fault, as before
  sound-item : (i : Item) → is_fault i ≡ false → NoFault (cleared_item p i)
  unfolding cleared_item is_fault all pick
  sound-item (unused k) f = refl
  sound-item (stale k n) f = refl
  sound-item (fault k) f = rw f
  sound-item (entry e) f = go (p e)
    where
      go : (b : Bool) → NoFault (pick b (unused_from e.slot e.slots) (entry e ∷ []))
      go true = unused_from-sound e.slot e.slots
      go false = refl

  pub cleared-sound : (is : List Item) → NoFault is → NoFault (cleared_items p is)
  unfolding cleared_items all
  cleared-sound [] s = refl
  cleared-sound (i ∷ is) s =
      let h = no_fault-cons i is s in
      all_append (λ x. not (is_fault x)) (cleared_item p i) (cleared_items p is) ∙ and_both _ _ (sound-item i h.0) (cleared-sound is h.1)

  -- ---- the writes
  -- what clears the rest, for any image in which it stands behind `pre`
  abbrev Rest : Geometry → List Item → Type 0
  Rest g rest = (s : List ℕ) (pre : List Item) → GoodGeometry (length s) g → items_of s g ≡ pre ++ rest → IsTidy (pre ++ rest)
      → Cleared s (cleared p s g (entries_of rest)) g (pre ++ cleared_items p rest)

  -- one item was taken care of: `mid` stands for it
  turn : (g : Geometry) (rest : List Item) → Rest g rest → (s t : List ℕ) (pre mid : List Item) → GoodGeometry (length s) g → Inner s t g
      → items_of t g ≡ pre ++ (mid ++ rest) → IsTidy (pre ++ (mid ++ rest)) → Cleared s (cleared p t g (entries_of rest)) g (pre ++ (mid ++ cleared_items p rest))
  turn g rest rec s t pre mid good i here sound =
      let join : pre ++ mid ++ rest ≡ pre ++ (mid ++ rest) = append_assoc pre mid rest in
      let c = rec t (pre ++ mid) (rw i.long good) (here ∙ sym join) (rw join sound) in
      record {
        inner = inner-then s t (cleared p t g (entries_of rest)) g i c.inner;
        items = c.items ∙ append_assoc pre mid (cleared_items p rest);
      }

  turn-entry : (g : Geometry) (rest : List Item) → Rest g rest → (e : Entry) (s : List ℕ) (pre : List Item) → GoodGeometry (length s) g
      → items_of s g ≡ pre ++ (entry e ∷ rest) → IsTidy (pre ++ (entry e ∷ rest)) → (b : Bool)
      → Cleared s (cleared p (pick b (splice s (slot_at s g e.slot) (unused_bytes g.edition e.slots)) s) g (entries_of rest)) g
      (pre ++ (pick b (unused_from e.slot e.slots) (entry e ∷ []) ++ cleared_items p rest))
  unfolding pick
  turn-entry g rest rec e s pre good here sound true =
      turn g rest rec s (splice s (slot_at s g e.slot) (unused_bytes g.edition e.slots)) pre (unused_from e.slot e.slots) good
      (cleared-inner s g good pre e rest here (tidy-sound _ sound))
      (cleared-items s g good pre e rest here (tidy-sound _ sound) (all-parts is_tidy pre (entry e ∷ rest) sound).0)
      (tidy-swap pre (entry e ∷ []) (unused_from e.slot e.slots) rest sound (unused_from-tidy e.slot e.slots))
  turn-entry g rest rec e s pre good here sound false = turn g rest rec s s pre (entry e ∷ []) good (but-none _ _ s) here sound

  pub clear-rest : (g : Geometry) (rest : List Item) → Rest g rest
  unfolding cleared cleared_items cleared_item entries_of
  clear-rest g [] s pre good here sound = record { inner = but-none _ _ s; items = here }
  clear-rest g (unused k ∷ rest) s pre good here sound = turn g rest (clear-rest g rest) s s pre (unused k ∷ []) good (but-none _ _ s) here sound
  clear-rest g (stale k n ∷ rest) s pre good here sound = turn g rest (clear-rest g rest) s s pre (stale k n ∷ []) good (but-none _ _ s) here sound
  clear-rest g (fault k ∷ rest) s pre good here sound = turn g rest (clear-rest g rest) s s pre (fault k ∷ []) good (but-none _ _ s) here sound
  clear-rest g (entry e ∷ rest) s pre good here sound = turn-entry g rest (clear-rest g rest) e s pre good here sound (p e)

  -- all of an index
  pub clear-all : (s : List ℕ) (g : Geometry) (is : List Item) → GoodGeometry (length s) g → items_of s g ≡ is → IsTidy is → Cleared s (cleared p s g (entries_of is)) g (cleared_items p is)
  clear-all s g is good here sound = clear-rest g is s [] good here sound

  -- ---- where one entry passes, it alone is cleared
  pub cleared-none : (s : List ℕ) (g : Geometry) (es : List Entry) → All (λ e. p e ≡ false) es → cleared p s g es ≡ s
  unfolding cleared pick
  cleared-none s g [] all = refl
  cleared-none s g (e ∷ es) all = rw all.0 (cleared-none s g es all.1)

  pub cleared-one : (s : List ℕ) (g : Geometry) (pre : List Entry) (e : Entry) (post : List Entry) → All (λ f. p f ≡ false) pre → p e ≡ true → All (λ f. p f ≡ false) post
      → cleared p s g (pre ++ (e ∷ post)) ≡ run_cleared s g e
  unfolding cleared
  cleared-one s g [] e post before passes behind =
      ap (λ (t : List ℕ). cleared p t g post) (pick_true _ _ passes) ∙ cleared-none (run_cleared s g e) g post behind
  cleared-one s g (f ∷ pre) e post before passes behind =
      ap (λ (t : List ℕ). cleared p t g (pre ++ (e ∷ post))) (pick-false _ _ before.0) ∙ cleared-one s g pre e post before.1 passes behind
