-- What two writes to the index leave of the walk: a run of another type and stamp, and the index grown by a run.
use Prim.Native.Nat.{ℕ, ◌+◌, ◌-◌, ◌*◌, ◌≤◌, ◌<◌}
use mathlib.Core.Path.{◌≡◌, refl, ap, ◌∙◌}
use mathlib.Core.Bool.{true}
use mathlib.Core.List.{List, ◌∷◌, ◌++◌, map}
use native.Mathlib.Omega.{arith}
use native.Mathlib.Nat.{add-zero}
use lib.ListN.{length, drop, length-drop}
use lib.IntN.{ℤ}
use Rattle.rules.specs.SuperBlock.Laws.{stored_stamp}
use Rattle.rules.specs.Editions.{Edition, keeps_deleted}
use Rattle.rules.specs.Editions.Laws.{sum-short}
use Rattle.rules.specs.Index.{Entry, Item, entry, item_at, is_fault, run_type, file_type, run_bytes, slot_bytes, retyped}
use Rattle.rules.specs.Index.Walk.{walk_all, slots_of, slots-pos}
use Rattle.laws.proofs.Lists.Spans.{but-drop}
use Rattle.laws.proofs.Index.Items.{slots_in, NoFault, one-tidy}
use Rattle.laws.proofs.Index.Walks.{Split, walk-on, walk-rest, walk_kept, walk-append, walk_split, keeps-tidy}
use Rattle.laws.proofs.Index.Places.{before-sound, item-there, place-within}
use Rattle.laws.proofs.Index.Shift.{shift_item, walk-shift}
use Rattle.laws.proofs.Index.Runs.{Storable, stored, walk-run_bytes, length-run_bytes}
use Rattle.laws.proofs.Index.Entries.{retyped_entry}
use Rattle.laws.proofs.Index.Retyped.{item-retyped, retyped-written, retyped-part}

-- ---- a run of another type and stamp
pub walk-retyped : (ed : Edition) → keeps_deleted ed ≡ true → (left k : ℕ) (a : List ℕ) (e : Entry) (kind : ℕ) (stamp : ℤ) (pre post : List Item)
    → walk_all ed left k a ≡ pre ++ (entry e ∷ post) → slot_bytes * left ≤ length a → run_type e.kind ≡ true → run_type kind ≡ true → file_type kind ≡ file_type e.kind
    → walk_all ed left k (retyped ed a (slot_bytes * slots_in pre) kind stamp) ≡ pre ++ (entry (retyped_entry kind (stored_stamp stamp) e) ∷ post)
unfolding retyped_entry is_fault slots_of
walk-retyped ed keeps left k a e kind stamp pre post q room old new alike =
    let p : ℕ = slots_in pre in
    let d : List ℕ = drop (slot_bytes * p) a in
    let f : Entry = retyped_entry kind (stored_stamp stamp) e in
    let sound : NoFault pre = before-sound ed left k a pre (entry e) post q in
    let h : Split ed left k a pre (entry e ∷ post) = walk_split ed left k a pre (entry e ∷ post) q sound in
    let more : p < left = place-within ed left k a pre (entry e) post q in
    let there : item_at ed (left - p) (k + p) d ≡ entry e = item-there ed left k a pre (entry e) post q in
    let left-room : slot_bytes * (left - p) ≤ length d = omega (arith, length-drop (slot_bytes * p) a) in
    let pos : 1 ≤ e.slots = rw there at (slots-pos ed (left - p) (k + p) d) in
    let part : drop (slot_bytes * p) (retyped ed a (slot_bytes * p) kind stamp) ≡ retyped ed d 0 kind stamp = rw add-zero at (retyped-part ed (slot_bytes * p) a 0 kind stamp (omega (arith, sum-short ed))) in
    let behind : drop (slot_bytes * e.slots) (retyped ed d 0 kind stamp) ≡ drop (slot_bytes * e.slots) d = but-drop (retyped-written ed d 0 kind stamp (omega (arith, sum-short ed))) (slot_bytes * e.slots) (omega (arith, sum-short ed)) in
    walk_kept ed left k a (retyped ed a (slot_bytes * p) kind stamp) pre (entry e ∷ post) q (keeps-tidy ed keeps left k a pre (entry e ∷ post) q sound) (retyped-written ed a (slot_bytes * p) kind stamp (omega (arith, sum-short ed))).front
    ∙ ap (λ (is : List Item). pre ++ is)
    (ap (walk_all ed (left - p) (k + p)) part
    ∙ walk-on ed (left - p) (k + p) (retyped ed d 0 kind stamp) (entry f) (omega arith) (item-retyped ed keeps (left - p) (k + p) d e kind stamp (omega arith) left-room there old new alike) refl
    ∙ ap (λ (is : List Item). entry f ∷ is) (ap (walk_all ed (left - p - e.slots) (k + p + e.slots)) behind ∙ walk-rest ed (left - p) (k + p) d (entry e) post h.back refl))

-- ---- the index grown by a run: the slots behind it are numbered anew
pub walk-grown : (ed : Edition) (left : ℕ) (a : List ℕ) (e : Entry) → Storable ed e
    → walk_all ed (e.slots + left) e.slot (run_bytes ed e ++ a) ≡ entry (stored e) ∷ map (shift_item e.slots) (walk_all ed left e.slot a)
walk-grown ed left a e h =
    let w = walk-run_bytes ed e h in
    walk-append ed e.slots left e.slot (run_bytes ed e) a (length-run_bytes ed e h) (rw w (one-tidy (stored e)))
    ∙ rw w (ap (λ (is : List Item). entry (stored e) ∷ is) (walk-shift ed e.slots left e.slot a))
