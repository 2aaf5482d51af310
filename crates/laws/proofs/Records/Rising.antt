-- What list finds one after the other are the live entries from a slot on, since entries stand in slot order.
use Prim.Native.Nat.{ℕ, ◌+◌, ◌-◌, ◌≤◌, ◌<◌}
use mathlib.Core.Path.{◌≡◌, refl, subst, ◌∙◌}
use mathlib.Core.Bool.{Bool, true, false}
use mathlib.Core.List.{List, [], ◌∷◌}
use native.Mathlib.Omega.{arith}
use lib.Dec.{leb}
use borrow.Author.Tests.{le-leb, lt-leb, leb-true}
use Rattle.rules.specs.Lists.{only, keep_if}
use Rattle.rules.specs.Lists.Laws.{and-true, and_right, only_no}
use Rattle.rules.specs.Index.{Entry}
use Rattle.rules.specs.Paths.{is_live, live_from}
use Rattle.laws.proofs.Lists.Parts.{cons_head, cons_tail, nil-cons}
use Rattle.laws.proofs.Index.Rising.{Rising, rising-from}

-- ---- the live ones from a slot on
from-same : (j m : ℕ) (e : Entry) → j ≤ e.slot → m ≤ e.slot → live_from j e ≡ live_from m e
unfolding live_from
from-same j m e h k = rw (le-leb j e.slot h, le-leb m e.slot k)

not-from : (j : ℕ) (e : Entry) → e.slot < j → live_from j e ≡ false
unfolding live_from
not-from j e h = and_right (is_live e) (leb j e.slot) (lt-leb j e.slot h)

from_low : (j : ℕ) (e : Entry) → live_from j e ≡ true → j ≤ e.slot
unfolding live_from
from_low j e h = leb-true j e.slot (and-true (is_live e) (leb j e.slot) h).1

live_same : (j m : ℕ) (es : List Entry) → m ≤ j → Rising j es → only (live_from j) es ≡ only (live_from m) es
unfolding only
live_same j m [] h r = refl
live_same j m (e ∷ es) h r =
    rw (from-same j m e r.0 (omega (arith, r.0)), live_same j m es h (rising-from (e.slot + 1) j es (omega (arith, r.0)) r.1))

-- the next is found from the slot behind the one before it
pub live-next : (k m : ℕ) (es : List Entry) (e : Entry) (rest : List Entry) → Rising k es → only (live_from m) es ≡ e ∷ rest
    → (only (live_from (e.slot + 1)) es ≡ rest) × (k ≤ e.slot)
unfolding only keep_if
live-next k m [] e rest r h = nil-cons h
live-next k m (x ∷ xs) e rest r h = by (live_from m x) refl (λ f. live-next (x.slot + 1) m xs e rest r.1 f) h
  where
    here : live_from m x ≡ true → (only (live_from (x.slot + 1)) (x ∷ xs) ≡ only (live_from m) xs) × (k ≤ x.slot)
    here t =
        let low = from_low m x t in
        (only_no (live_from (x.slot + 1)) x xs (not-from (x.slot + 1) x (omega arith)) ∙ live_same (x.slot + 1) m xs (omega (arith, low)) r.1, r.0)

    by : (t : Bool) → live_from m x ≡ t → (only (live_from m) xs ≡ e ∷ rest → (only (live_from (e.slot + 1)) xs ≡ rest) × (x.slot + 1 ≤ e.slot))
        → keep_if t x (only (live_from m) xs) ≡ e ∷ rest → (only (live_from (e.slot + 1)) (x ∷ xs) ≡ rest) × (k ≤ e.slot)
    by true t later f =
        let q : x ≡ e = cons_head f in
        let p = here t in
        (subst (λ (y : Entry). only (live_from (y.slot + 1)) (x ∷ xs) ≡ rest) q (p.0 ∙ cons_tail f), subst (λ (y : Entry). k ≤ y.slot) q p.1)
    by false t later f =
        let p = later f in
        (only_no (live_from (e.slot + 1)) x xs (not-from (e.slot + 1) x (omega (arith, p.1))) ∙ p.0, omega (arith, p.1, r.0))
