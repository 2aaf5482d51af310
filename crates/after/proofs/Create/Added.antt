-- The index after a run was written: sound, with the new entry among the others, whether the run went to unused slots or to the front. Assumes nothing.
use Prim.Native.Nat.{ℕ, ◌+◌, ◌*◌, ◌≤◌}
use mathlib.Core.Path.{◌≡◌, refl, sym, ap, ap₂, ◌∙◌}
use mathlib.Core.List.{List, [], ◌∷◌, ◌++◌, map}
use lib.ListN.{length}
use lib.IntN.{pos}
use Rattle.rules.specs.Lists.{all, Perm}
use Rattle.rules.specs.Fields.{splice}
use Rattle.rules.specs.SuperBlock.{Geometry}
use Rattle.rules.specs.SuperBlock.Laws.{GoodGeometry}
use Rattle.rules.specs.Index.{Entry, Item, entry, items_of, entries_of, is_fault, slot_at, slot_bytes, run_bytes}
use Rattle.laws.proofs.Lists.Parts.{map-map, all-parts}
use Rattle.laws.proofs.Lists.Perms.{perm-back, perm-of, perm-map, perm-insert}
use Rattle.laws.proofs.Index.Items.{NoFault, no_fault-swap, is_tidy, IsTidy, tidy-sound, one-sound}
use Rattle.laws.proofs.Index.Entries.{retyped_entry}
use Rattle.laws.proofs.Index.Places.{entries_of-append}
use Rattle.laws.proofs.Index.Unused.{unused_from, unused_from-entries, UnusedRun, unused-plain}
use Rattle.laws.proofs.Index.Shift.{shift_item, shift_entry, entries_of-shift, no_fault-shift}
use Rattle.laws.proofs.Index.Runs.{Storable, stored}
use Rattle.laws.proofs.Images.Inner.{Inner}
use Rattle.laws.proofs.Images.Indexes.{run-inner, run-items, grown-inner, grown-items}

-- an entry but for its slot and its stamp: what is judged and seen of it
unfoldable pub core : Entry → Entry
core e = record {
  kind = e.kind;
  slot = 0;
  slots = e.slots;
  stamp = pos 0;
  start = e.start;
  end = e.end;
  length = e.length;
  path = e.path;
}

-- from s to t: a write between marker and identifier, after which the entries are e and the others, in some order
pub record Added (s t : List ℕ) (g : Geometry) (e : Entry) (es : List Entry) : Type 0 where
  pub inner : Inner s t g
  pub sound : NoFault (items_of t g)
  pub order : Perm (map core (entries_of (items_of t g))) (map core (e ∷ es))

entries_of-entry : (e : Entry) (is : List Item) → entries_of (entry e ∷ is) ≡ e ∷ entries_of is
unfolding entries_of
entries_of-entry e is = refl

core-stored : (e : Entry) → core (stored e) ≡ core e
unfolding core stored retyped_entry
core-stored e = refl

-- ---- in the place of unused slots
unused-order : (e : Entry) (is pre post : List Item) (k m : ℕ) → is ≡ pre ++ (unused_from k m ++ post)
    → Perm (map core (entries_of (pre ++ (entry (stored e) ∷ post)))) (map core (e ∷ entries_of is))
unused-order e is pre post k m split =
    let after : entries_of (pre ++ (entry (stored e) ∷ post)) ≡ entries_of pre ++ (stored e ∷ entries_of post) =
    entries_of-append pre (entry (stored e) ∷ post) ∙ ap (λ (es : List Entry). entries_of pre ++ es) (entries_of-entry (stored e) post) in
    let before : entries_of is ≡ entries_of pre ++ entries_of post =
    ap entries_of split
    ∙ entries_of-append pre (unused_from k m ++ post)
    ∙ ap (λ (es : List Entry). entries_of pre ++ es) (entries_of-append (unused_from k m) post ∙ rw (unused_from-entries k m)) in
    rw (after, before, ← core-stored e) (perm-map core (perm-back (perm-insert (stored e) (entries_of pre) (entries_of post))))

pub unused-added : (s : List ℕ) (g : Geometry) (is : List Item) (e : Entry) → GoodGeometry (length s) g → items_of s g ≡ is → IsTidy is → Storable g.edition e
    → UnusedRun e.slots 1 e.slot is → Added s (splice s (slot_at s g e.slot) (run_bytes g.edition e)) g e (entries_of is)
unused-added s g is e good here neat k r =
    let plain : is ≡ r.pre ++ (unused_from e.slot e.slots ++ r.post) = unused-plain e.slots 1 e.slot is r neat in
    let tidied : IsTidy (r.pre ++ (unused_from e.slot e.slots ++ r.post)) = ap (all is_tidy) (sym plain) ∙ neat in
    let clear : NoFault (r.pre ++ (unused_from e.slot e.slots ++ r.post)) = tidy-sound _ tidied in
    let before : IsTidy r.pre = (all-parts is_tidy r.pre (unused_from e.slot e.slots ++ r.post) tidied).0 in
    let items = run-items s g good e k r.pre r.post r.place (here ∙ plain) clear before in
    record {
      inner = run-inner s g good e k r.pre r.post r.place (here ∙ plain) clear;
      sound = rw items (no_fault-swap r.pre (unused_from e.slot e.slots) (entry (stored e) ∷ []) r.post clear (one-sound (stored e)));
      order = rw items (unused-order e is r.pre r.post e.slot e.slots plain);
    }

-- ---- in front of the others, whose slots shift
core-shift : (d : ℕ) (es : List Entry) → map core (map (shift_entry d) es) ≡ map core es
unfolding core shift_entry
core-shift d es = map-map core (shift_entry d) es

front-order : (e : Entry) (d : ℕ) (is : List Item) → Perm (map core (entries_of (entry (stored e) ∷ map (shift_item d) is))) (map core (e ∷ entries_of is))
front-order e d is =
    perm-of _ _ (
    ap (map core) (entries_of-entry (stored e) (map (shift_item d) is))
    ∙ ap₂ (λ (x : Entry) (es : List Entry). x ∷ es) (core-stored e) (ap (map core) (entries_of-shift d is) ∙ core-shift d (entries_of is)))

front-sound : (e : Entry) (d : ℕ) (is : List Item) → NoFault is → NoFault (entry e ∷ map (shift_item d) is)
unfolding all is_fault
front-sound e d is h = no_fault-shift d is ∙ h

pub front-added : (s : List ℕ) (g h : Geometry) (is : List Item) (e : Entry) → h.edition ≡ g.edition → 128 ≤ g.index_bytes → h.index_bytes ≤ length s → items_of s g ≡ is → NoFault is
    → Storable g.edition e → e.slot ≡ 1 → h.index_bytes ≡ g.index_bytes + slot_bytes * e.slots
    → Added s (splice s (slot_at s h e.slot) (run_bytes g.edition e)) h e (entries_of is)
front-added s g h is e edition low fits here sound k first grown =
    let items = grown-items s g h edition low fits e k first grown ∙ ap (λ (js : List Item). entry (stored e) ∷ map (shift_item e.slots) js) here in
    record {
      inner = grown-inner s g h edition low fits e k first grown;
      sound = rw items (front-sound (stored e) e.slots is sound);
      order = rw items (front-order e e.slots is);
    }
