-- An entry's head in the rules' words, and what is known of one that was found.
use Prim.Native.Nat.{ℕ, ◌+◌, ◌-◌, ◌*◌, ◌≤◌}
use Rattle.std.specs.Prelude.{◌≡◌, Bool, ◌||◌, not, length, take}
use Rattle.std.proofs.Math.Path.{refl, sym, ap}
use Rattle.std.proofs.Common.{◌∙◌, arith}
use Rattle.std.proofs.Math.Bool.{true, false}
use mathlib.Core.List.{List, []}
use Rattle.std.proofs.Math.ListN.{get_or, drop, length-take, length-drop}
use Rattle.std.proofs.Math.Dec.{eqb}
use Rattle.std.proofs.Math.IntN.{pos}
use Rattle.rules.specs.Lists.{pick}
use Rattle.rules.specs.Lists.Laws.{clash, pick_true, pick-false, and-true, and_both, and_left, and_right, or-other}
use borrow.Author.Tests.{eqb-true}
use Rattle.rules.specs.Fields.{byte_at, le, signed_of, stamp_in, up_to_zero}
use Rattle.rules.specs.Fields.Laws.{le-drop}
use Rattle.rules.specs.Editions.{Edition, sum_length, past_end}
use Rattle.rules.specs.Index.{Entry, entry_at, unusable_at, run_slots, run_field, run_whole, stale_slots, stale_type, deleted_type, name_good, name_field, run_type, type_unusable, name_at, stamp_at, start_at, end_at, length_at, unusable_start_at, unusable_end_at, file_field, file_type, directory_type}
use Rattle.rules.specs.Index.Walk.{pick-both}
use Rattle.rules.specs.Index.Items.{byte-drop, type-drop, name-field, head_of, head-run, head-unusable, entry_type, step_slots, Stands}
use Rattle.editions.specs.View.{edition_view}
use Rattle.editions.specs.Ends.{past_near, past-zero}
use Rattle.slots.specs.declared.Head.{Head}
use Rattle.slots.specs.declared.Spot.{Spot}

-- the path, read where the head stands
unfoldable pub path_at : Edition → List ℕ → ℕ → ℕ → List ℕ
path_at ed s at t = pick (run_type t) (up_to_zero (name_field ed (drop at s))) []

unfoldable pub head_view : List ℕ → Head → Entry
head_view s h = record {
  kind = h.kind;
  slot = h.slot.0;
  slots = h.slots;
  stamp = signed_of h.stamp;
  start = h.start.0;
  end = past_end (edition_view h.edition) h.end.0;
  length = h.length;
  path = path_at (edition_view h.edition) s h.at.0 h.kind;
}

-- the same of a spot: its numbers are those in the image
unfoldable pub spot_view : List ℕ → Spot → Entry
spot_view s p =
    let e : Entry = head_of (edition_view p.edition) p.slot.0 (drop p.at.0 s) in
    record {
      kind = p.kind;
      slot = p.slot.0;
      slots = e.slots;
      stamp = e.stamp;
      start = e.start;
      end = e.end;
      length = e.length;
      path = path_at (edition_view p.edition) s p.at.0 p.kind;
    }

-- the end that is stored is that of the view or the block before it, and 0 exactly if that is
module _ (s : List ℕ) (h : Head) where
  pub end-near : (h.end.0 ≤ (head_view s h).end) × ((head_view s h).end ≤ h.end.0 + 1)
  unfolding head_view
  end-near = past_near (edition_view h.edition) h.end.0

  pub end-zero : eqb (head_view s h).end 0 ≡ eqb h.end.0 0
  unfolding head_view
  end-zero = past-zero (edition_view h.edition) h.end.0

signed-zero : signed_of 0 ≡ pos 0
unfolding signed_of pick
signed-zero = refl

pub unusable-no-run : run_type type_unusable ≡ false
unfolding run_type file_type directory_type
unusable-no-run = refl

-- a head that was read field by field
module _ (ed : Edition) (s : List ℕ) (at k : ℕ) (h : Head) (of : edition_view h.edition ≡ ed) (place : h.at.0 ≡ at) (number : h.slot.0 ≡ k) where
  pub run-view : run_type (get_or s at 0) ≡ true → h.kind ≡ get_or s at 0 → h.slots ≡ run_slots ed (drop at s) → h.stamp ≡ le 8 s (at + stamp_at ed)
      → h.start.0 ≡ file_field (drop at s) (start_at ed) → h.end.0 ≡ file_field (drop at s) (end_at ed) → h.length ≡ file_field (drop at s) (length_at ed)
      → head_view s h ≡ entry_at ed k (drop at s)
  unfolding head_view entry_at path_at stamp_in
  run-view t kd sl st b e l =
      let kd' : h.kind ≡ byte_at (drop at s) 0 = kd ∙ sym (type-drop s at) in
      let st' : h.stamp ≡ le 8 (drop at s) (stamp_at ed) = st ∙ sym (le-drop 8 s at (stamp_at ed)) in
      let p : pick (run_type h.kind) (up_to_zero (name_field ed (drop at s))) [] ≡ up_to_zero (name_field ed (drop at s)) = pick_true _ _ (ap run_type kd ∙ t) in
      rw (of, place, p) (cc)

  pub unusable-view : run_type (get_or s at 0) ≡ false → h.kind ≡ type_unusable → h.slots ≡ 1 → h.stamp ≡ 0
      → h.start.0 ≡ le 8 s (at + unusable_start_at) → h.end.0 ≡ le 8 s (at + unusable_end_at) → h.length ≡ 0
      → head_view s h ≡ head_of ed k (drop at s)
  unfolding head_view unusable_at path_at
  unusable-view t kd sl st b e l =
      let b' : h.start.0 ≡ le 8 (drop at s) unusable_start_at = b ∙ sym (le-drop 8 s at unusable_start_at) in
      let e' : h.end.0 ≡ le 8 (drop at s) unusable_end_at = e ∙ sym (le-drop 8 s at unusable_end_at) in
      let z : signed_of h.stamp ≡ pos 0 = ap signed_of st ∙ signed-zero in
      let p : pick (run_type h.kind) (up_to_zero (name_field ed (drop h.at.0 s))) [] ≡ [] = pick-false _ _ (ap run_type kd ∙ unusable-no-run) in
      rw (of, p) (cc (head-unusable ed k (drop at s) (ap run_type (type-drop s at) ∙ t)))

-- what was found at `at`, of this type and so many slots: it lies in the image, and the name of a run is good
pub record EntryIn (ed : Edition) (s : List ℕ) (at kind slots : ℕ) : Type 0 where
  pub fits : at + 64 * slots ≤ length s
  pub short : length s ≤ 16_777_216
  pub low : 1 ≤ slots
  pub few : slots ≤ 256
  pub type : run_type kind ≡ true → kind ≡ get_or s at 0
  pub count : run_type kind ≡ true → slots ≡ run_slots ed (drop at s)
  pub named : run_type kind ≡ true → name_good (name_field ed (drop at s)) ≡ true

abbrev pub HeadIn : List ℕ → Head → Type 0
HeadIn s h = EntryIn (edition_view h.edition) s h.at.0 h.kind h.slots

abbrev pub SpotIn : List ℕ → Spot → Type 0
SpotIn s p = EntryIn (edition_view p.edition) s p.at.0 p.kind (spot_view s p).slots

same-but : (e : Entry) (t k : ℕ) (q : List ℕ) → t ≡ e.kind → k ≡ e.slot → q ≡ e.path
    → record { kind = t; slot = k; slots = e.slots; stamp = e.stamp; start = e.start; end = e.end; length = e.length; path = q } ≡ e
same-but e t k q a b c = rw (a, b, c)

-- ---- the entry at `at` is as it stands
module _ (ed : Edition) (s : List ℕ) (at k : ℕ) where
  abbrev here : Entry
  here = head_of ed k (drop at s)

  here-slot : here.slot ≡ k
  unfolding head_of entry_at unusable_at
  here-slot = pick-both (λ (e : Entry). e.slot ≡ k) (run_type (byte_at (drop at s) 0)) (entry_at ed k (drop at s)) (unusable_at ed k (drop at s)) refl refl

  starts-run : run_type here.kind ≡ true → run_type (byte_at (drop at s) 0) ≡ true
  unfolding unusable_at
  starts-run t = by (run_type (byte_at (drop at s) 0)) refl
    where
      by : (b : Bool) → run_type (byte_at (drop at s) 0) ≡ b → b ≡ true
      by true e = refl
      by false e = clash (sym t ∙ ap (λ (x : Entry). run_type x.kind) (head-unusable ed k (drop at s) e) ∙ unusable-no-run)

  type-is : run_type here.kind ≡ true → here.kind ≡ get_or s at 0
  unfolding entry_at
  type-is t = ap (λ (x : Entry). x.kind) (head-run ed k (drop at s) (starts-run t)) ∙ type-drop s at

  count-is : run_type here.kind ≡ true → here.slots ≡ run_slots ed (drop at s)
  unfolding entry_at
  count-is t = ap (λ (x : Entry). x.slots) (head-run ed k (drop at s) (starts-run t))

  pub entry_in : (left : ℕ) → Stands ed left k (drop at s) → at + 64 * left ≤ length s → length s ≤ 16_777_216 → here.slots ≤ 256
      → EntryIn ed s at here.kind here.slots
  entry_in left st f l w = record {
    fits = omega (arith, st.fits);
    short = l;
    low = st.low;
    few = w;
    type = type-is;
    count = count-is;
    named = λ t. st.named (starts-run t);
  }

  here-path : path_at ed s at here.kind ≡ here.path
  unfolding path_at entry_at unusable_at
  here-path = by (run_type (byte_at (drop at s) 0)) refl
    where
      by : (b : Bool) → run_type (byte_at (drop at s) 0) ≡ b → pick (run_type here.kind) (up_to_zero (name_field ed (drop at s))) [] ≡ here.path
      by true e = rw (head-run ed k (drop at s) e) (pick_true _ _ e)
      by false e = rw (head-unusable ed k (drop at s) e) (pick-false _ _ unusable-no-run)

  -- a head that was read there
  module _ (h : Head) (view : head_view s h ≡ here) where
    pub slots-is : h.slots ≡ here.slots
    unfolding head_view
    slots-is = ap (λ (e : Entry). e.slots) view

    pub slot_is : h.slot.0 ≡ k
    unfolding head_view
    slot_is = ap (λ (e : Entry). e.slot) view ∙ here-slot

  -- a spot there, whose type was read
  module _ (p : Spot) (of : edition_view p.edition ≡ ed) (place : p.at.0 ≡ at) (number : p.slot.0 ≡ k) (type : p.kind ≡ get_or s at 0) (starts : entry_type ed (get_or s at 0) ≡ true) where
    spot-kind : (b : Bool) → run_type (byte_at (drop at s) 0) ≡ b → p.kind ≡ here.kind
    unfolding entry_at unusable_at entry_type
    spot-kind true e = type ∙ sym (type-drop s at) ∙ ap (λ (x : Entry). x.kind) (sym (head-run ed k (drop at s) e))
    spot-kind false e =
        let u : get_or s at 0 ≡ type_unusable = eqb-true (get_or s at 0) type_unusable (or-other _ _ (and-true (not (stale_type ed (get_or s at 0))) (run_type (get_or s at 0) || eqb (get_or s at 0) type_unusable) starts).1 (ap run_type (sym (type-drop s at)) ∙ e)) in
        type ∙ u ∙ ap (λ (x : Entry). x.kind) (sym (head-unusable ed k (drop at s) e))

    pub spot-view : spot_view s p ≡ here
    unfolding spot_view
    spot-view =
        let kd : p.kind ≡ here.kind = spot-kind (run_type (byte_at (drop at s) 0)) refl in
        rw (of, place, number) (same-but here p.kind k (path_at ed s at p.kind) kd (sym here-slot) (rw kd here-path))

    pub spot_in : EntryIn ed s at here.kind here.slots → SpotIn s p
    unfolding spot_view
    spot_in i = rw (of, place, number, spot-kind (run_type (byte_at (drop at s) 0)) refl) i

-- a head with the numbers of a spot's entry
pub head-spot : (s : List ℕ) (p : Spot) (h : Head) → spot_view s p ≡ head_view s h → h.edition ≡ p.edition → h.at.0 ≡ p.at.0 → SpotIn s p → HeadIn s h
unfolding spot_view head_view
head-spot s p h e of place i =
    let kd : h.kind ≡ p.kind = ap (λ (x : Entry). x.kind) (sym e) in
    let n : h.slots ≡ (head_of (edition_view p.edition) p.slot.0 (drop p.at.0 s)).slots = ap (λ (x : Entry). x.slots) (sym e) in
    rw (of, place, kd, n) i

-- ---- what a program reads at `at`: b is the count, nm the place of the name in the first slot
module _ (ed : Edition) (s : List ℕ) (at : ℕ) where
  pub slots_read : (b sum : ℕ) → sum ≡ sum_length ed → b ≡ get_or s (at + (sum + 1)) 0 → 1 + b ≡ run_slots ed (drop at s)
  unfolding run_slots
  slots_read b sum m e = ap (λ (x : ℕ). 1 + x) (rw m at e ∙ sym (byte-drop s at (sum_length ed + 1)))

  -- a walk goes on by one slot where the count is 0
  pub one-by-count : (sum : ℕ) → sum ≡ sum_length ed → get_or s (at + (sum + 1)) 0 ≡ 0 → (left : ℕ) → step_slots ed left (drop at s) ≡ 1
  unfolding step_slots stale_slots
  one-by-count sum m z left =
      let one : run_slots ed (drop at s) ≡ 1 = sym (slots_read 0 sum m (sym z)) in
      rw one
      (pick-both (λ (n : ℕ). n ≡ 1) _ _ _ (pick-both (λ (n : ℕ). n ≡ 1) _ _ _ refl refl) (pick-both (λ (n : ℕ). n ≡ 1) _ _ _ refl refl))

  -- where a program tells what stands there by the byte at `at`
  module _ (left n t : ℕ) (byte : t ≡ get_or s at 0) where
    same-type : byte_at (drop at s) 0 ≡ t
    same-type = type-drop s at ∙ sym byte

    -- what is left over
    pub stale-stray : deleted_type t ≡ false → n ≡ 1 → n ≡ stale_slots ed left (drop at s)
    unfolding stale_slots
    stale-stray h e = rw same-type (e ∙ sym (pick-false _ _ (and_left _ _ h)))

    pub stale-broken : run_whole ed left (drop at s) ≡ false → n ≡ 1 → n ≡ stale_slots ed left (drop at s)
    unfolding stale_slots
    stale-broken w e = e ∙ sym (pick-false _ _ (and_right (deleted_type (byte_at (drop at s) 0)) _ w))

    pub stale-all : deleted_type t ≡ true → run_whole ed left (drop at s) ≡ true → n ≡ run_slots ed (drop at s) → n ≡ stale_slots ed left (drop at s)
    unfolding stale_slots
    stale-all h w e = rw same-type (e ∙ sym (pick_true _ _ (and_both _ _ h w)))

pub slots-low : (ed : Edition) (a : List ℕ) → 1 ≤ run_slots ed a
unfolding run_slots
slots-low ed a = omega arith

pub field-read : (ed : Edition) (s : List ℕ) (at n k x y : ℕ) → n ≡ run_slots ed (drop at s) → k ≡ name_at ed (get_or s at 0) → x ≡ at + k → y ≡ at + 64 * n
    → take (y - x) (drop x s) ≡ name_field ed (drop at s)
field-read ed s at n k x y en ek ex ey =
    let z : k ≡ name_at ed (byte_at (drop at s) 0) = ek ∙ ap (name_at ed) (sym (type-drop s at)) in
    rw (ex, ey, en, z) (sym (name-field ed s at))

-- ---- the path of a run
module _ (ed : Edition) (s : List ℕ) (at kind slots : ℕ) (found : EntryIn ed s at kind slots) (run : run_type kind ≡ true) where
  pub field_fits : at + 64 * run_slots ed (drop at s) ≤ length s
  field_fits = omega (arith, found.count run, found.fits)

  pub path-is : path_at ed s at kind ≡ up_to_zero (name_field ed (drop at s))
  unfolding path_at
  path-is = pick_true _ _ run

  -- a run has up to 256 slots
  pub name-short : length (name_field ed (drop at s)) ≤ 16_384
  unfolding name_field run_field
  name-short =
      let a : List ℕ = drop at s in
      let n : ℕ = 64 * run_slots ed a in
      omega (arith, length-drop (name_at ed (byte_at a 0)) (take n a), length-take n a, found.count run, found.few)

-- ---- how many slots an entry has
pub entry-slots : (ed : Edition) (k : ℕ) (a : List ℕ) → (entry_at ed k a).slots ≡ run_slots ed a
unfolding entry_at
entry-slots ed k a = refl

pub unusable-slots : (ed : Edition) (k : ℕ) (a : List ℕ) → (unusable_at ed k a).slots ≡ 1
unfolding unusable_at
unusable-slots ed k a = refl
