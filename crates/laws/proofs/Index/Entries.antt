-- What an entry that the walk gives says of its bytes; and what holds of each entry, however it was read, holds of all.
use Prim.Native.Nat.{ℕ, zero, suc, ◌+◌, ◌-◌, ◌*◌, ◌^◌, ◌≤◌, ◌<◌}
use mathlib.Core.Path.{◌≡◌, refl, sym, ap, ◌∙◌}
use mathlib.Core.Bool.{true, false}
use mathlib.Core.List.{List, []}
use mathlib.Core.Logic.{◌⊎◌, inl, inr}
use native.Mathlib.Omega.{arith}
use lib.ListN.{length, take, drop, length-take, length-drop}
use lib.IntN.{ℤ}
use lib.Signed.{mag}
use Rattle.rules.specs.Lists.{All}
use Rattle.rules.specs.Lists.Laws.{clash, pick-false, and-true}
use Rattle.rules.specs.Fields.{Bytes, byte_at, le, has_zero, up_to_zero, stamp_in}
use Rattle.rules.specs.Fields.Laws.{le-lt, up_to_zero-take}
use Rattle.rules.specs.Fields.Signed.{signed_of-mag}
use Rattle.rules.specs.Editions.{Edition, sum_good, past_end, stored_end}
use Rattle.rules.specs.Editions.Laws.{stored_past, past-none}
use Rattle.rules.specs.SuperBlock.{Geometry}
use Rattle.rules.specs.Names.{path_good}
use Rattle.rules.specs.Index.{Entry, Item, unused, stale, entry, fault, item_at, entry_at, unusable_at, stale_slots, stale_type, run_slots, run_field, name_good, name_field, run_type, file_type, directory_type, file_field, type_unusable, count_at, stamp_at, end_at, length_at, unusable_end_at, slot_bytes, followed, walk, items_of, entries_of, walk_all}
use Rattle.rules.specs.Index.Walk.{pick-both}
use Rattle.rules.specs.Index.Items.{whole-fits}
use Rattle.laws.proofs.Index.Items.{item_by}

-- the entry of another type and stamp
unfoldable pub retyped_entry : ℕ → ℤ → Entry → Entry
retyped_entry kind stamp e = record {
  kind = kind;
  slot = e.slot;
  slots = e.slots;
  stamp = stamp;
  start = e.start;
  end = e.end;
  length = e.length;
  path = e.path;
}

-- ---- one item is not another
entry-same : (e f : Entry) → entry e ≡ entry f → e ≡ f
entry-same e f h = cc

unused-entry : {X : Type 0} (k : ℕ) (e : Entry) → unused k ≡ entry e → X
unused-entry k e h = let z : ◌≡◌ {A = ℕ} 0 1 = cc in absurd (omega arith)

stale-entry : {X : Type 0} (k n : ℕ) (e : Entry) → stale k n ≡ entry e → X
stale-entry k n e h = let z : ◌≡◌ {A = ℕ} 0 1 = cc in absurd (omega arith)

fault-entry : {X : Type 0} (k : ℕ) (e : Entry) → fault k ≡ entry e → X
fault-entry k e h = let z : ◌≡◌ {A = ℕ} 0 1 = cc in absurd (omega arith)

-- ---- an entry is a run's or an unusable one's
pub record IsRun (ed : Edition) (left k : ℕ) (a : List ℕ) (e : Entry) : Type 0 where
  pub made : e ≡ entry_at ed k a
  pub fresh : stale_type ed (byte_at a 0) ≡ false
  pub kinds : run_type (byte_at a 0) ≡ true
  pub within : run_slots ed a ≤ left
  pub summed : sum_good ed (run_field ed a) ≡ true
  pub named : name_good (name_field ed a) ≡ true

pub record IsUnusable (ed : Edition) (k : ℕ) (a : List ℕ) (e : Entry) : Type 0 where
  pub made : e ≡ unusable_at ed k a
  pub kinds : byte_at a 0 ≡ type_unusable
  pub summed : sum_good ed (take slot_bytes a) ≡ true

-- what stands at a place, by cases
pub item-cases : (ed : Edition) (left k : ℕ) (a : List ℕ) (P : Item → Type 0) → ((e : Entry) → IsRun ed left k a e → P (entry e)) → ((e : Entry) → IsUnusable ed k a e → P (entry e)) → P (unused k)
    → P (stale k (stale_slots ed left a)) → P (fault k) → P (item_at ed left k a)
item-cases ed left k a P run unusable free over bad =
    item_by ed left k a P
    (λ o r w g. let h = whole-fits ed left a w in run (entry_at ed k a) (record { made = refl; fresh = o; kinds = r; within = h.0; summed = h.1; named = g }))
    (λ o r u h. unusable (unusable_at ed k a) (record { made = refl; kinds = u; summed = h })) (λ o r u s. free) (λ o. over) bad

pub entry-from : (ed : Edition) (left k : ℕ) (a : List ℕ) (e : Entry) → item_at ed left k a ≡ entry e → IsRun ed left k a e ⊎ IsUnusable ed k a e
entry-from ed left k a e =
    item-cases ed left k a (λ i. i ≡ entry e → IsRun ed left k a e ⊎ IsUnusable ed k a e)
    (λ x h q. inl (rw (← entry-same x e q) h))
    (λ x h q. inr (rw (← entry-same x e q) h))
    (λ q. unused-entry k e q)
    (λ q. stale-entry k _ e q)
    (λ q. fault-entry k e q)

-- ---- what a run's entry is
module _ (ed : Edition) (left k : ℕ) (a : List ℕ) (e : Entry) (h : IsRun ed left k a e) where
  pub run-kind : e.kind ≡ byte_at a 0
  unfolding entry_at
  run-kind = rw h.made

  pub run-fresh : stale_type ed e.kind ≡ false
  run-fresh = ap (stale_type ed) run-kind ∙ h.fresh

  pub run-stamp : e.stamp ≡ stamp_in a (stamp_at ed)
  unfolding entry_at
  run-stamp = rw h.made

  pub run-slots : e.slots ≡ 1 + byte_at a (count_at ed)
  unfolding entry_at run_slots
  run-slots = rw h.made

  pub run-within : e.slots ≤ left
  unfolding entry_at
  run-within = rw h.made h.within

  pub run-path : path_good e.path ≡ true
  unfolding entry_at name_good
  run-path = rw h.made (and-true (has_zero (name_field ed a)) (path_good (up_to_zero (name_field ed a))) h.named).1

  -- a directory has no region and no length
  pub run-bare : file_type e.kind ≡ false → (e.start ≡ 0) × (e.end ≡ 0) × (e.length ≡ 0)
  unfolding entry_at file_field
  run-bare f =
      let g : file_type (byte_at a 0) ≡ false = rw run-kind at f in
      rw h.made (pick-false _ _ g, ap (past_end ed) (pick-false _ _ g) ∙ past-none ed, pick-false _ _ g)

module _ (ed : Edition) (k : ℕ) (a : List ℕ) (e : Entry) (h : IsUnusable ed k a e) where
  pub unusable-kind : e.kind ≡ type_unusable
  unfolding unusable_at
  unusable-kind = rw h.made

  pub unusable-slots : e.slots ≡ 1
  unfolding unusable_at
  unusable-slots = rw h.made

  pub unusable-bare : (e.length ≡ 0) × (e.path ≡ [])
  unfolding unusable_at
  unusable-bare = rw h.made (refl, refl)

-- an entry of a run's type is a run's
pub entry-run : (ed : Edition) (left k : ℕ) (a : List ℕ) (e : Entry) → item_at ed left k a ≡ entry e → run_type e.kind ≡ true → IsRun ed left k a e
unfolding run_type file_type directory_type
entry-run ed left k a e q t = by (entry-from ed left k a e q)
  where
    by : IsRun ed left k a e ⊎ IsUnusable ed k a e → IsRun ed left k a e
    by (inl h) = h
    by (inr h) = clash (sym (rw (unusable-kind ed k a e h) at t))

-- ---- its numbers, the end as it is stored and given
pub record Numbers (ed : Edition) (e : Entry) : Type 0 where
  pub ends : stored_end ed e.end < 2 ^ 64
  pub lengths : e.length < 2 ^ 64
  pub stamps : mag e.stamp < 2 ^ 63

stamp-mag : (a : List ℕ) (at : ℕ) → Bytes a → mag (stamp_in a at) < 2 ^ 63
unfolding stamp_in
stamp-mag a at b = signed_of-mag (le 8 a at) (le-lt 8 a at b)

field_lt : (a : List ℕ) (at : ℕ) → Bytes a → file_field a at < 2 ^ 64
unfolding file_field
field_lt a at b = pick-both (λ n. n < 2 ^ 64) _ _ _ (le-lt 8 a at b) (omega arith)

pub run-numbers : (ed : Edition) (left k : ℕ) (a : List ℕ) (e : Entry) → IsRun ed left k a e → Bytes a → Numbers ed e
unfolding entry_at
run-numbers ed left k a e h b = rw h.made (record { ends = rw (stored_past ed (file_field a (end_at ed))) (field_lt a (end_at ed) b); lengths = field_lt a (length_at ed) b; stamps = stamp-mag a (stamp_at ed) b })

pub unusable-numbers : (ed : Edition) (k : ℕ) (a : List ℕ) (e : Entry) → IsUnusable ed k a e → Bytes a → Numbers ed e
unfolding unusable_at
unusable-numbers ed k a e h b = rw h.made (record { ends = rw (stored_past ed (le 8 a unusable_end_at)) (le-lt 8 a unusable_end_at b); lengths = omega arith; stamps = omega arith })

-- a path has no more bytes than its run's slots
pub up_to_zero-length : (s : List ℕ) → length (up_to_zero s) ≤ length s
up_to_zero-length s = omega (arith, ap length (up_to_zero-take s) ∙ length-take (length (up_to_zero s)) s)

name-length : (ed : Edition) (a : List ℕ) → length (name_field ed a) ≤ slot_bytes * run_slots ed a
unfolding name_field run_field
name-length ed a = simp (length-drop, length-take) (omega arith)

pub run-path-length : (ed : Edition) (left k : ℕ) (a : List ℕ) (e : Entry) → IsRun ed left k a e → length e.path ≤ slot_bytes * e.slots
unfolding entry_at
run-path-length ed left k a e h = rw h.made (omega (arith, up_to_zero-length (name_field ed a), name-length ed a))

-- ---- of every entry
-- THE INDUCTION over an index: what a run's entry is, and what an unusable one is, all are
module _ (ed : Edition) (P : Entry → Type 0) (run : (left k : ℕ) (a : List ℕ) (e : Entry) → IsRun ed left k a e → P e) (unusable : (k : ℕ) (a : List ℕ) (e : Entry) → IsUnusable ed k a e → P e) where
  abbrev OfItem : Item → Type 0
  OfItem (unused k) = Unit {0}
  OfItem (stale k n) = Unit {0}
  OfItem (entry e) = P e
  OfItem (fault k) = Unit {0}

  of-followed : (i : Item) (rest : ℕ → List Item) → OfItem i → ((n : ℕ) → All P (entries_of (rest n))) → All P (entries_of (followed i rest))
  unfolding followed entries_of
  of-followed (unused k) rest h r = r 1
  of-followed (stale k n) rest h r = r n
  of-followed (entry e) rest h r = (h, r e.slots)
  of-followed (fault k) rest h r = tt

  pub of-walk : (steps left k : ℕ) (a : List ℕ) → All P (entries_of (walk ed steps left k a))
  unfolding walk entries_of
  of-walk zero left k a = tt
  of-walk (suc steps) zero k a = tt
  of-walk (suc steps) (suc left) k a =
      of-followed (item_at ed (suc left) k a) _ (item-cases ed (suc left) k a OfItem (run (suc left) k a) (unusable k a) tt tt tt)
      (λ n. of-walk steps (suc left - n) (k + n) (drop (slot_bytes * n) a))

pub every-entry : (P : Entry → Type 0) (s : List ℕ) (g : Geometry) → ((left k : ℕ) (a : List ℕ) (e : Entry) → IsRun g.edition left k a e → P e)
    → ((k : ℕ) (a : List ℕ) (e : Entry) → IsUnusable g.edition k a e → P e) → All P (entries_of (items_of s g))
unfolding items_of walk_all
every-entry P s g run unusable = of-walk g.edition P run unusable _ _ 1 _

-- they are no more than the steps
few-followed : (n : ℕ) (i : Item) (rest : ℕ → List Item) → ((m : ℕ) → length (entries_of (rest m)) ≤ n) → length (entries_of (followed i rest)) ≤ suc n
unfolding followed entries_of
few-followed n (unused k) rest h = omega (arith, h 1)
few-followed n (stale k m) rest h = omega (arith, h m)
few-followed n (entry e) rest h = omega (arith, h e.slots)
few-followed n (fault k) rest h = omega arith

pub few-entries : (ed : Edition) (n left k : ℕ) (a : List ℕ) → length (entries_of (walk ed n left k a)) ≤ n
unfolding walk entries_of
few-entries ed zero left k a = omega arith
few-entries ed (suc n) zero k a = omega arith
few-entries ed (suc n) (suc left) k a = few-followed n (item_at ed (suc left) k a) _ (λ m. few-entries ed n (suc left - m) (k + m) (drop (slot_bytes * m) a))
