-- PLACES ENOUGH: with a place for each region the answer over a table is the one without, and 4,094 places are enough for any image. Assumes nothing.
use Prim.Native.Nat.{ℕ, ◌≤◌}
use mathlib.Core.Path.{◌≡◌, refl, sym, ap, ◌∙◌}
use mathlib.Core.List.{List}
use native.Mathlib.Omega.{arith}
use lib.ListN.{length, drop, length-map}
use lib.Dec.{ltb}
use Rattle.rules.specs.Lists.{only}
use Rattle.rules.specs.SuperBlock.{Geometry}
use Rattle.rules.specs.Index.{Entry, items_of, inner_slots, slot_at, entries_of}
use Rattle.rules.specs.Index.Walk.{walk_all}
use Rattle.rules.specs.Regions.{Extent, extent_of}
use Rattle.rules.specs.Refusals.{Verdict, refused, accepted, judge_geometry}
use Rattle.rules.specs.Refusals.Laws.{accepted-is, need-accepted, then-accepted, judge-super}
use Rattle.rules.specs.RegionTable.{regions_of, Tabled, untabled, judge_bounds, table_of, sharing_of}
use Rattle.rules.proofs.RegionTable.Laws.{in-order-same, table-refused, table-told, sharing-refused, sharing-told}
use Rattle.laws.proofs.Lists.Every.{only-fewer}
use Rattle.laws.proofs.Lists.Perms.{perm-length}
use Rattle.laws.proofs.Index.Slots.{inner-slots}
use Rattle.laws.proofs.Index.Entries.{few-entries}

pub enough-answer : (s : List ℕ) (table : List Extent) (es : List Entry) → judge_bounds s ≡ accepted es → length (regions_of es) ≤ length table → (table_of s table).answer ≡ sharing_of s
enough-answer s table es e h =
    ap (λ (x : Tabled). x.answer) (table-told s table es e (omega (arith, perm-length (in-order-same (regions_of es))))) ∙ sym (sharing-told s es e)

-- an index has no more entries
index-few : (s : List ℕ) (g : Geometry) → judge_geometry s ≡ accepted g → length (entries_of (items_of s g)) ≤ 4_094
unfolding items_of walk_all
index-few s g e =
    let n = inner_slots g in
    omega (arith, few-entries g.edition n n 1 (drop (slot_at s g 1) s), inner-slots g, (judge-super s g e).geometry-good.index-high)

bounded-few : (s : List ℕ) (es : List Entry) → judge_bounds s ≡ accepted es → length es ≤ 4_094
unfolding judge_bounds
bounded-few s es e =
    let (g, super, rest) = then-accepted (judge_geometry s) _ e in
    let p = need-accepted _ _ _ rest in
    let q = need-accepted _ _ _ p.1 in
    rw (← accepted-is q.1) (index-few s g super)

regions-few : (s : List ℕ) (es : List Entry) → judge_bounds s ≡ accepted es → length (regions_of es) ≤ 4_094
unfolding regions_of
regions-few s es e =
    omega (arith, length-map (only (λ x. ltb x.start x.end) es) extent_of, only-fewer (λ x. ltb x.start x.end) es, bounded-few s es e)

pub roomy-answer : (s : List ℕ) (table : List Extent) → 4_094 ≤ length table → (table_of s table).answer ≡ sharing_of s
unfolding untabled
roomy-answer s table h = by (judge_bounds s) refl
  where
    by : (v : Verdict (List Entry)) → judge_bounds s ≡ v → (table_of s table).answer ≡ sharing_of s
    by (refused n) e = ap (λ (x : Tabled). x.answer) (table-refused s table n e) ∙ sym (sharing-refused s n e)
    by (accepted es) e = enough-answer s table es e (omega (arith, regions-few s es e))
