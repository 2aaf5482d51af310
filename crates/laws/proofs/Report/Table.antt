-- A table one item further: what is counted at its kind, and the sums of the items behind it, are the sums of all.
use Prim.Native.Nat.{ℕ, zero, suc, ◌+◌, ◌%◌, ◌^◌, ◌<◌}
use mathlib.Core.Path.{◌≡◌, refl, sym, ap, ap₂, ◌∙◌}
use mathlib.Core.Bool.{Bool, true, false}
use mathlib.Core.List.{List, [], ◌∷◌}
use native.Mathlib.Omega.{arith}
use native.Mathlib.Nat.{mod-add-mod, add_assoc, add-zero}
use lib.ListN.{length, get_or, set}
use lib.Dec.{eqb}
use borrow.Author.Tests.{eq-eqb, ne_eqb}
use Rattle.rules.specs.Lists.{both, only, keep_if, sum, pick}
use Rattle.rules.specs.Lists.Laws.{pick_true, pick-false}
use Rattle.rules.specs.Index.{Item}
use Rattle.rules.specs.Report.{item_kind, slots_in, blocks_in, bytes_in, sums_of_kind, Table, sums_of, plus64, added}

-- ---- sums of 64 bits
plus-thrice : (a b c : ℕ) → plus64 (plus64 a b) c ≡ plus64 a (b + c)
plus-thrice a b c = mod-add-mod (a + b) (2 ^ 64) c ∙ ap (λ (n : ℕ). n % 2 ^ 64) (add_assoc a b c)

row-thrice : (r x y : List ℕ) → both plus64 (both plus64 r x) y ≡ both plus64 r (both ◌+◌ x y)
unfolding both
row-thrice [] x y = refl
row-thrice (a ∷ r) [] y = refl
row-thrice (a ∷ r) (b ∷ x) [] = refl
row-thrice (a ∷ r) (b ∷ x) (c ∷ y) = ap₂ (λ (h : ℕ) (t : List ℕ). h ∷ t) (plus-thrice a b c) (row-thrice r x y)

pub table-thrice : (t u v : Table) → added (added t u) v ≡ added t (both (both ◌+◌) u v)
unfolding added both
table-thrice [] u v = refl
table-thrice (r ∷ t) [] v = refl
table-thrice (r ∷ t) (x ∷ u) [] = refl
table-thrice (r ∷ t) (x ∷ u) (y ∷ v) = ap₂ (λ (h : List ℕ) (s : Table). h ∷ s) (row-thrice r x y) (table-thrice t u v)

-- ---- the sums of a kind, one item further
abbrev pub item_row : Item → List ℕ
item_row i = slots_in i ∷ blocks_in i ∷ bytes_in i ∷ []

module _ (i : Item) (is : List Item) (k : ℕ) where
  keep-sums : (t : Bool) (js : List Item)
      → sum slots_in (keep_if t i js) ∷ sum blocks_in (keep_if t i js) ∷ sum bytes_in (keep_if t i js) ∷ []
      ≡ pick t (both ◌+◌ (item_row i) (sum slots_in js ∷ sum blocks_in js ∷ sum bytes_in js ∷ [])) (sum slots_in js ∷ sum blocks_in js ∷ sum bytes_in js ∷ [])
  unfolding keep_if sum pick both
  keep-sums true js = refl
  keep-sums false js = refl

  sums_next : sums_of_kind (i ∷ is) k ≡ pick (eqb (item_kind i) k) (both ◌+◌ (item_row i) (sums_of_kind is k)) (sums_of_kind is k)
  unfolding sums_of_kind only
  sums_next = keep-sums (eqb (item_kind i) k) (only (λ i. eqb (item_kind i) k) is)

  sums-own : item_kind i ≡ k → sums_of_kind (i ∷ is) k ≡ both ◌+◌ (item_row i) (sums_of_kind is k)
  sums-own e = sums_next ∙ pick_true _ _ (eq-eqb (item_kind i) k e)

  sums-other : (item_kind i ≡ k → ⊥) → sums_of_kind (i ∷ is) k ≡ sums_of_kind is k
  sums-other d = sums_next ∙ pick-false _ _ (ne_eqb (item_kind i) k d)

-- n kinds from k on
abbrev rows_from : ℕ → ℕ → List Item → Table
rows_from zero k is = []
rows_from (suc n) k is = sums_of_kind is k ∷ rows_from n (suc k) is

rows_all : (is : List Item) → sums_of is ≡ rows_from 6 0 is
unfolding sums_of
rows_all is = refl

module _ (i : Item) (is : List Item) where
  rows_other : (n k : ℕ) → item_kind i < k → rows_from n k (i ∷ is) ≡ rows_from n k is
  rows_other zero k h = refl
  rows_other (suc n) k h = ap₂ (λ (r : List ℕ) (t : Table). r ∷ t) (sums-other i is k (λ e. omega arith)) (rows_other n (suc k) (omega arith))

  turn-from : (n k j : ℕ) (t : Table) → item_kind i ≡ k + j → j < length t
      → added (set t j (both plus64 (get_or t j []) (item_row i))) (rows_from n k is) ≡ added t (rows_from n k (i ∷ is))
  unfolding added both
  turn-from n k j [] e h = absurd (omega arith)
  turn-from zero k zero (r ∷ t) e h = refl
  turn-from zero k (suc j) (r ∷ t) e h = refl
  turn-from (suc n) k zero (r ∷ t) e h =
      ap₂ (λ (x : List ℕ) (u : Table). x ∷ u)
      (row-thrice r (item_row i) (sums_of_kind is k) ∙ ap (both plus64 r) (sym (sums-own i is k (e ∙ add-zero k))))
      (ap (both (both plus64) t) (sym (rows_other n (suc k) (omega arith))))
  turn-from (suc n) k (suc j) (r ∷ t) e h =
      ap₂ (λ (x : List ℕ) (u : Table). x ∷ u)
      (ap (both plus64 r) (sym (sums-other i is k (λ f. omega arith))))
      (turn-from n (suc k) j t (omega arith) (omega arith))

-- an item counted at its kind
abbrev pub counted_at : Table → ℕ → List ℕ → Table
counted_at t k row = set t k (both plus64 (get_or t k []) row)

pub table-turn : (i : Item) (is : List Item) (t : Table) (k : ℕ) → item_kind i ≡ k → k < length t
    → added (counted_at t k (item_row i)) (sums_of is) ≡ added t (sums_of (i ∷ is))
table-turn i is t k e h = rw (rows_all is, rows_all (i ∷ is)) (turn-from i is 6 0 k t (omega (arith, e)) h)
