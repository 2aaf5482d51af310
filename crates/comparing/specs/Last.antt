-- The test before the walk, read at the path's last place; a name that it passes over is not the path.
use Prim.Native.Nat.{ℕ, zero, suc, ◌+◌, ◌≤◌, ◌<◌}
use Rattle.std.specs.Prelude.{◌≡◌, ◌++◌, refl, Bool, true, false, length, get_or, eqb}
use Rattle.std.proofs.Common.{sym, ap, length-append, ◌∙◌, drop_of_length-le, drop-cons}
use Rattle.std.proofs.Math.Seq.{get_or-append_seam}
use mathlib.Core.List.{List, [], ◌∷◌}
use native.Mathlib.Omega.{arith}
use borrow.Author.Tests.{eq-eqb, eqb-true}
use Rattle.rules.specs.Lists.{eq_list, part}
use Rattle.rules.specs.Lists.Laws.{clash, and-true, and_last}
use Rattle.rules.specs.Comparing.{at_last, last_alike, goes_on, walked, looked}
use Rattle.rules.specs.Comparing.Laws.{looked-tested, looked-walked}
use Rattle.comparing.specs.Walk.{is_then}

-- ---- what stands at the path's last place
at_last_lem : (path xs : List ℕ) (i : ℕ) → suc i ≡ length path → i < length xs → at_last path xs ≡ get_or xs i 0 ∷ []
unfolding at_last part
at_last_lem [] xs i e h = absurd (omega arith)
at_last_lem (p ∷ ps) xs i e h =
    let l : length ps ≡ i = omega arith in
    rw (l, drop-cons xs i 0 h) refl

past-last : (path xs : List ℕ) → length xs < length path → at_last path xs ≡ []
unfolding at_last part
past-last [] xs h = absurd (omega arith)
past-last (p ∷ ps) xs h = rw (drop_of_length-le xs {i = length ps} (omega arith)) refl

no_last : (path xs : List ℕ) → length path ≡ 0 → at_last path xs ≡ []
unfolding at_last
no_last [] xs h = refl
no_last (p ∷ ps) xs h = absurd (omega arith)

-- ---- the test
module _ (name path : List ℕ) where
  -- an empty path
  pub untested : length path ≡ 0 → (true ≡ last_alike name path) × (0 ≡ length (at_last path name))
  unfolding last_alike eq_list
  untested z = rw (no_last path name z, no_last path path z) (refl, refl)

  -- place i is the path's last, and the name has it
  pub tested : (i : ℕ) → suc i ≡ length path → length path ≤ length name
      → (eqb (get_or name i 0) (get_or path i 0) ≡ last_alike name path) × (1 ≡ length (at_last path name))
  unfolding last_alike eq_list
  tested i e h = rw (at_last_lem path name i e (omega arith), at_last_lem path path i e (omega arith)) (sym (and_last _), refl)

-- the path is some bytes and its last
pub tested-parts : (name path before : List ℕ) (last : ℕ) → path ≡ before ++ (last ∷ []) → length path ≤ length name
    → (eqb (get_or name (length before) 0) last ≡ last_alike name path) × (1 ≡ length (at_last path name))
tested-parts name path before last e h =
    let n = length before in
    let is : get_or path n 0 ≡ last = ap (λ (xs : List ℕ). get_or xs n 0) e ∙ get_or-append_seam before last [] 0 in
    let t = tested name path n (omega (arith, ap length e, length-append before (last ∷ []))) h in
    (ap (eqb (get_or name n 0)) (sym is) ∙ t.0, t.1)

-- the run has no such place
out-last : (name path : List ℕ) → length name < length path → last_alike name path ≡ false
unfolding last_alike eq_list
out-last name [] h = absurd (omega arith)
out-last name (p ∷ ps) h = rw (past-last (p ∷ ps) name h, at_last_lem (p ∷ ps) (p ∷ ps) (length ps) refl (omega arith)) refl

-- ---- what the test passes over
module _ (end : ℕ) where
  then-long : (name path : List ℕ) → is_then end name path ≡ true → length path < length name
  unfolding is_then
  then-long [] path t = clash (sym t)
  then-long (b ∷ bs) [] t = omega arith
  then-long (b ∷ bs) (p ∷ ps) t = omega (arith, then-long bs ps (and-true (goes_on b p) (is_then end bs ps) t).1)

  then-alike : (name path : List ℕ) → is_then end name path ≡ true → (i : ℕ) → i < length path → get_or name i 0 ≡ get_or path i 0
  unfolding is_then goes_on
  then-alike [] path t i h = clash (sym t)
  then-alike (b ∷ bs) [] t i h = absurd (omega arith)
  then-alike (b ∷ bs) (p ∷ ps) t zero h = eqb-true b p (and-true (eqb b p) _ (and-true (goes_on b p) (is_then end bs ps) t).0).0
  then-alike (b ∷ bs) (p ∷ ps) t (suc i) h = then-alike bs ps (and-true (goes_on b p) (is_then end bs ps) t).1 i (omega arith)

  then-last : (name path : List ℕ) → is_then end name path ≡ true → last_alike name path ≡ true
  then-last name [] t = sym (untested name [] refl).0
  then-last name (p ∷ ps) t =
      let l = then-long name (p ∷ ps) t in
      sym (tested name (p ∷ ps) (length ps) refl (omega arith)).0 ∙ eq-eqb _ _ (then-alike name (p ∷ ps) t (length ps) (omega arith))

  pub passed_over : (name path : List ℕ) → last_alike name path ≡ false → false ≡ is_then end name path
  passed_over name path f = by (is_then end name path) refl
    where
      by : (t : Bool) → is_then end name path ≡ t → false ≡ t
      by true e = clash (sym (then-last name path e) ∙ f)
      by false e = refl

  pub no_place : (name path : List ℕ) → length name < length path → (false ≡ is_then end name path) × (0 ≡ looked name path)
  no_place name path h =
      let f = out-last name path h in
      (passed_over name path f, sym (looked-tested name path f ∙ rw (past-last path name h) refl))

-- ---- the comparison, by what the test answered and how many bytes it looked at
module _ (name path : List ℕ) (same : Bool) (n : ℕ) (answer : same ≡ last_alike name path) (count : n ≡ length (at_last path name)) where
  pub compare-apart : same ≡ false → (end : ℕ) → (same ≡ is_then end name path) × (n ≡ looked name path)
  compare-apart f end =
      let e = sym answer ∙ f in
      (f ∙ passed_over end name path e, count ∙ sym (looked-tested name path e))

  pub compare-walked : same ≡ true → (m : ℕ) → m ≡ walked name path → n + m ≡ looked name path
  compare-walked t m e = rw (count, e) (sym (looked-walked name path (sym answer ∙ t)))
