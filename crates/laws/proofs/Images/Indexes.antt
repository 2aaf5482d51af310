-- The items of an image after each write to its index: slots written anew, a run of another type and stamp, the index grown by a run.
use Prim.Native.Nat.{ℕ, ◌+◌, ◌-◌, ◌*◌, ◌≤◌}
use mathlib.Core.Path.{◌≡◌, refl, sym, ap, ap₂, subst, ◌∙◌}
use mathlib.Core.Bool.{true}
use mathlib.Core.List.{List, [], ◌∷◌, ◌++◌, map}
use native.Mathlib.Omega.{arith}
use lib.ListN.{length, get_or, drop, length-drop}
use lib.Seq.{drop-drop}
use lib.IntN.{ℤ}
use Rattle.rules.specs.Fields.{splice, signed_of, stamp_in}
use Rattle.rules.specs.Fields.Laws.{le-drop}
use Rattle.rules.specs.Editions.{Edition, keeps_deleted}
use Rattle.rules.specs.Editions.Laws.{sum-short}
use Rattle.rules.specs.SuperBlock.{Geometry}
use Rattle.rules.specs.SuperBlock.Laws.{GoodGeometry, stored_stamp}
use Rattle.rules.specs.Index.{Entry, Item, entry, items_of, inner_slots, slot_at, slot_bytes, stamp_at, unused_bytes, run_bytes, run_type, file_type, retyped}
use Rattle.rules.specs.Index.Walk.{walk_all, slots_of}
use Rattle.rules.specs.Index.Items.{type-drop}
use Rattle.rules.specs.Writing.{item_slot}
use Rattle.laws.proofs.Lists.Spans.{drop-splice, drop-splice-part}
use Rattle.laws.proofs.Index.Items.{slots_in, slots_in-append, slots_in-cons, NoFault, IsTidy, one-tidy, one-slots}
use Rattle.laws.proofs.Index.Walks.{slots-all, walk-replace}
use Rattle.laws.proofs.Index.Slots.{slot-at, slot_same, identifier-at, inner-slots, items-walk}
use Rattle.laws.proofs.Index.Places.{slot-there, place-within, item-there}
use Rattle.laws.proofs.Index.Unused.{unused_from, unused_from-slots, unused_from-tidy, walk-unused_bytes, length-unused_bytes}
use Rattle.laws.proofs.Index.Shift.{shift_item}
use Rattle.laws.proofs.Index.Runs.{Storable, stored, length-run_bytes, walk-run_bytes}
use Rattle.laws.proofs.Index.Entries.{IsRun, retyped_entry, entry-run, run-kind, run-stamp}
use Rattle.laws.proofs.Index.Retyped.{retyped-part}
use Rattle.laws.proofs.Index.Writes.{walk-retyped, walk-grown}
use Rattle.laws.proofs.Images.Areas.{slot-on, inner-end}
use Rattle.laws.proofs.Images.Inner.{Inner, inner-retyped, inner-splice}

-- after a write that keeps the length
items-written : (s : List ℕ) (g : Geometry) (t : List ℕ) → length t ≡ length s → items_of t g ≡ walk_all g.edition (inner_slots g) 1 (drop (slot_at s g 1) t)
items-written s g t long = items-walk t g ∙ rw (slot_same s t g g long refl 1)

module _ (s : List ℕ) (g : Geometry) (good : GoodGeometry (length s) g) where
  inner_room : slot_bytes * inner_slots g ≤ length (drop (slot_at s g 1) s)
  inner_room = omega (arith, identifier-at s, length-drop (slot_at s g 1) s, inner-end s g good)

  -- ---- other bytes for the slots of some items
  module _ (pre mid post : List Item) (here : items_of s g ≡ pre ++ (mid ++ post)) (sound : NoFault (pre ++ (mid ++ post))) (bs : List ℕ) (full : length bs ≡ slot_bytes * slots_in mid) where
    place : slot_at s g (1 + slots_in pre) ≡ slot_at s g 1 + slot_bytes * slots_in pre
    place = slot-on s g (slots_in pre)

    walked : walk_all g.edition (inner_slots g) 1 (drop (slot_at s g 1) s) ≡ pre ++ (mid ++ post)
    walked = sym (items-walk s g) ∙ here

    fits : slots_in pre + slots_in mid ≤ inner_slots g
    fits =
        let n : slots_in (pre ++ (mid ++ post)) ≡ inner_slots g = rw walked at (slots-all g.edition (inner_slots g) 1 (drop (slot_at s g 1) s) (rw walked sound)) in
        omega (arith, slots_in-append pre (mid ++ post), slots_in-append mid post)

    pub replaced-inner : Inner s (splice s (slot_at s g (1 + slots_in pre)) bs) g
    replaced-inner = inner-splice s g (slot_at s g (1 + slots_in pre)) (omega (arith, place)) bs (omega (arith, place, inner-end s g good, fits))

    pub replaced-items : IsTidy pre → IsTidy (walk_all g.edition (slots_in mid) (1 + slots_in pre) bs) → items_of (splice s (slot_at s g (1 + slots_in pre)) bs) g ≡ pre ++ (walk_all g.edition (slots_in mid) (1 + slots_in pre) bs ++ post)
    replaced-items before fine =
        let n : ℕ = slot_at s g 1 in
        let at : ℕ = slot_bytes * slots_in pre in
        let in_place : drop n (splice s (slot_at s g (1 + slots_in pre)) bs) ≡ splice (drop n s) at bs =
        rw place (drop-splice-part n s at bs (omega (arith, identifier-at s, inner-end s g good))) in
        items-written s g _ replaced-inner.long
        ∙ ap (walk_all g.edition (inner_slots g) 1) in_place
        ∙ walk-replace g.edition (inner_slots g) 1 (drop n s) bs pre mid post walked sound before inner_room full fine

  -- ---- a run written over unused slots
  module _ (e : Entry) (h : Storable g.edition e) (pre post : List Item) (at : e.slot ≡ 1 + slots_in pre) (here : items_of s g ≡ pre ++ (unused_from e.slot e.slots ++ post)) (sound : NoFault (pre ++ (unused_from e.slot e.slots ++ post))) where
    run-full : length (run_bytes g.edition e) ≡ slot_bytes * slots_in (unused_from e.slot e.slots)
    run-full = length-run_bytes g.edition e h ∙ rw (unused_from-slots e.slot e.slots)

    run-walk : walk_all g.edition (slots_in (unused_from e.slot e.slots)) (1 + slots_in pre) (run_bytes g.edition e) ≡ entry (stored e) ∷ []
    run-walk = rw (unused_from-slots e.slot e.slots, ← at) (walk-run_bytes g.edition e h)

    pub run-inner : Inner s (splice s (slot_at s g e.slot) (run_bytes g.edition e)) g
    run-inner = subst (λ (k : ℕ). Inner s (splice s (slot_at s g k) (run_bytes g.edition e)) g) (sym at) (replaced-inner pre (unused_from e.slot e.slots) post here sound (run_bytes g.edition e) run-full)

    pub run-items : IsTidy pre → items_of (splice s (slot_at s g e.slot) (run_bytes g.edition e)) g ≡ pre ++ (entry (stored e) ∷ post)
    run-items before =
        ap (λ (k : ℕ). items_of (splice s (slot_at s g k) (run_bytes g.edition e)) g) at
        ∙ replaced-items pre (unused_from e.slot e.slots) post here sound (run_bytes g.edition e) run-full before (rw run-walk (one-tidy (stored e)))
        ∙ rw run-walk

  module _ (pre : List Item) (e : Entry) (post : List Item) (here : items_of s g ≡ pre ++ (entry e ∷ post)) where
    there : walk_all g.edition (inner_slots g) 1 (drop (slot_at s g 1) s) ≡ pre ++ (entry e ∷ post)
    there = sym (items-walk s g) ∙ here

    entry-slot : e.slot ≡ 1 + slots_in pre
    unfolding item_slot
    entry-slot = slot-there g.edition (inner_slots g) 1 (drop (slot_at s g 1) s) pre (entry e) post there

    -- ---- its first slot lies in the image
    at_entry : slot_at s g e.slot ≡ slot_at s g 1 + slot_bytes * slots_in pre
    at_entry = ap (slot_at s g) entry-slot ∙ slot-on s g (slots_in pre)

    behind : slots_in pre + 1 ≤ inner_slots g
    behind = omega (arith, place-within g.edition (inner_slots g) 1 (drop (slot_at s g 1) s) pre (entry e) post there)

    pub entry-room : slot_at s g e.slot + slot_bytes ≤ length s
    entry-room = omega (arith, at_entry, inner-end s g good, identifier-at s, behind)

    -- and all its slots
    pub entry_whole : NoFault (items_of s g) → slot_at s g e.slot + slot_bytes * e.slots ≤ length s
    unfolding slots_of
    entry_whole sound =
        let all : slots_in (pre ++ (entry e ∷ post)) ≡ inner_slots g =
        ap slots_in (sym there) ∙ slots-all g.edition (inner_slots g) 1 (drop (slot_at s g 1) s) (subst NoFault (items-walk s g) sound) in
        omega (arith, at_entry, inner-end s g good, identifier-at s, all, slots_in-append pre (entry e ∷ post), slots_in-cons (entry e) post)

    -- ---- the type and the stamp of a run's entry, where they stand
    module _ (run : run_type e.kind ≡ true) where
      stands : IsRun g.edition (inner_slots g - slots_in pre) (1 + slots_in pre) (drop (slot_at s g e.slot) s) e
      stands =
          let at : drop (slot_bytes * slots_in pre) (drop (slot_at s g 1) s) ≡ drop (slot_at s g e.slot) s =
          drop-drop (slot_bytes * slots_in pre) (slot_at s g 1) s ∙ ap (λ (n : ℕ). drop n s) (sym at_entry) in
          entry-run g.edition _ _ _ e (rw at at (item-there g.edition (inner_slots g) 1 (drop (slot_at s g 1) s) pre (entry e) post there)) run

      pub kind-there : e.kind ≡ get_or s (slot_at s g e.slot) 0
      kind-there = run-kind g.edition _ _ _ e stands ∙ type-drop s (slot_at s g e.slot)

      pub stamp-there : e.stamp ≡ stamp_in s (slot_at s g e.slot + stamp_at g.edition)
      unfolding stamp_in
      stamp-there = run-stamp g.edition _ _ _ e stands ∙ ap signed_of (le-drop 8 s (slot_at s g e.slot) (stamp_at g.edition))

    -- ---- the slots of a run made unused
    module _ (sound : NoFault (pre ++ (entry e ∷ post))) where
      unused-full : length (unused_bytes g.edition e.slots) ≡ slot_bytes * slots_in (entry e ∷ [])
      unused-full = length-unused_bytes g.edition e.slots ∙ rw (one-slots e)

      unused-walk : walk_all g.edition (slots_in (entry e ∷ [])) (1 + slots_in pre) (unused_bytes g.edition e.slots) ≡ unused_from e.slot e.slots
      unused-walk = rw (one-slots e, ← entry-slot) (walk-unused_bytes g.edition e.slot e.slots)

      pub cleared-inner : Inner s (splice s (slot_at s g e.slot) (unused_bytes g.edition e.slots)) g
      cleared-inner = rw entry-slot (replaced-inner pre (entry e ∷ []) post here sound (unused_bytes g.edition e.slots) unused-full)

      pub cleared-items : IsTidy pre → items_of (splice s (slot_at s g e.slot) (unused_bytes g.edition e.slots)) g ≡ pre ++ (unused_from e.slot e.slots ++ post)
      cleared-items before =
          ap (λ (k : ℕ). items_of (splice s (slot_at s g k) (unused_bytes g.edition e.slots)) g) entry-slot
          ∙ replaced-items pre (entry e ∷ []) post here sound (unused_bytes g.edition e.slots) unused-full before (rw unused-walk (unused_from-tidy e.slot e.slots))
          ∙ rw unused-walk

    -- ---- its run of another type and stamp
    module _ (kind : ℕ) (stamp : ℤ) where
      pub retyped-inner : Inner s (retyped g.edition s (slot_at s g e.slot) kind stamp) g
      retyped-inner = inner-retyped s g (slot_at s g e.slot) (omega (arith, at_entry)) kind stamp (omega (arith, at_entry, inner-end s g good, behind, sum-short g.edition))

      pub retyped-items : keeps_deleted g.edition ≡ true → run_type e.kind ≡ true → run_type kind ≡ true → file_type kind ≡ file_type e.kind
          → items_of (retyped g.edition s (slot_at s g e.slot) kind stamp) g ≡ pre ++ (entry (retyped_entry kind (stored_stamp stamp) e) ∷ post)
      retyped-items keeps old new alike =
          let n : ℕ = slot_at s g 1 in
          let at : ℕ = slot_bytes * slots_in pre in
          let in_place : drop n (retyped g.edition s (slot_at s g e.slot) kind stamp) ≡ retyped g.edition (drop n s) at kind stamp =
          rw at_entry (retyped-part g.edition n s at kind stamp (omega (arith, identifier-at s, inner-end s g good, behind, sum-short g.edition))) in
          items-written s g _ retyped-inner.long
          ∙ ap (walk_all g.edition (inner_slots g) 1) in_place
          ∙ walk-retyped g.edition keeps (inner_slots g) 1 (drop n s) e kind stamp pre post there inner_room old new alike

-- ---- the index grown by a run: h has room for it in front of the slots of g, which are numbered anew
module _ (s : List ℕ) (g h : Geometry) (edition : h.edition ≡ g.edition) (low : 128 ≤ g.index_bytes) (fits : h.index_bytes ≤ length s) (e : Entry) (k : Storable g.edition e) (first : e.slot ≡ 1) (grown : h.index_bytes ≡ g.index_bytes + slot_bytes * e.slots) where
  run-behind : slot_at s h e.slot + length (run_bytes g.edition e) ≡ slot_at s g 1
  run-behind = omega (arith, ap (slot_at s h) first, slot-at s h 1, slot-at s g 1, length-run_bytes g.edition e k)

  pub grown-inner : Inner s (splice s (slot_at s h e.slot) (run_bytes g.edition e)) h
  grown-inner = inner-splice s h (slot_at s h e.slot) (omega (arith, ap (slot_at s h) first)) (run_bytes g.edition e) (omega (arith, run-behind, slot-at s g 1, identifier-at s))

  pub grown-items : items_of (splice s (slot_at s h e.slot) (run_bytes g.edition e)) h ≡ entry (stored e) ∷ map (shift_item e.slots) (items_of s g)
  grown-items =
      let a : ℕ = slot_at s h e.slot in
      let inner : inner_slots h ≡ e.slots + inner_slots g = omega (arith, inner-slots h, inner-slots g) in
      let room : a ≤ length s = omega (arith, run-behind, slot-at s g 1) in
      items-written s h _ grown-inner.long
      ∙ ap (λ (ed : Edition). walk_all ed (inner_slots h) 1 (drop (slot_at s h 1) (splice s a (run_bytes g.edition e)))) edition
      ∙ ap₂ (λ (j n : ℕ). walk_all g.edition (inner_slots h) j (drop (slot_at s h n) (splice s a (run_bytes g.edition e)))) (sym first) (sym first)
      ∙ ap₂ (λ (m : ℕ) (x : List ℕ). walk_all g.edition m e.slot x) inner (drop-splice s a (run_bytes g.edition e) room ∙ ap (λ (j : ℕ). run_bytes g.edition e ++ drop j s) run-behind)
      ∙ walk-grown g.edition (inner_slots g) (drop (slot_at s g 1) s) e k
      ∙ ap (λ (is : List Item). entry (stored e) ∷ map (shift_item e.slots) is) (ap (λ (j : ℕ). walk_all g.edition (inner_slots g) j (drop (slot_at s g 1) s)) first ∙ sym (items-walk s g))
