use mathlib.Core.Path.{◌≡◌, sym, ap, ap₂, ◌∙◌}
use mathlib.Core.List.{List}
use Prim.Native.Nat.{ℕ, ◌+◌, ◌≤◌}
use native.Mathlib.Omega.{arith}
use lib.ListN.{length, get_or, drop}
use borrow.Author.Tests.{ne_eqb}
use borrow.Author.Rules.{rules}
use Rattle.std.proofs.Common.{drop-drop}
use mathlib.Core.Bool.{Bool}
use Rattle.std.proofs.lemmas.List.{take_rest, get_or-drop, length-drop}
use Rattle.rules.specs.Fields.{up_to_zero}
use Rattle.ordering.specs.Paths.{follows}
use Rattle.ordering.specs.Starts.{starts-as}
use Rattle.path_rules.specs.Names.{in_common, both_end, common-behind, common-ends, common-fits}
use Rattle.path_rules.specs.Shared.{names-behind, names-inside}
use Rattle.path_rules.proofs.name_follows.Goals as goal
use Rattle.path_rules.proofs.name_follows.Goals.{After-in_common, Then-x-y, Start}

-- ---- n bytes in common behind the first d of two fields
module _ (d : ℕ) (f g : List ℕ) (n : ℕ) where
  inside : d ≤ length f → n ≡ in_common (drop d f) (drop d g) → d + n ≤ length f
  inside h e = omega (arith, common-fits (drop d f) (drop d g), length-drop d f)

  ends : n ≡ in_common (drop d f) (drop d g) → get_or f (d + n) 0 ≡ get_or g (d + n) 0 → get_or f (d + n) 0 ≡ 0
  ends e h =
      let m : ℕ = in_common (drop d f) (drop d g) in
      let p : get_or (drop d f) m 0 ≡ get_or f (d + n) 0 = get_or-drop d f m 0 ∙ ap (λ (k : ℕ). get_or f (d + k) 0) (sym e) in
      let q : get_or (drop d g) m 0 ≡ get_or g (d + n) 0 = get_or-drop d g m 0 ∙ ap (λ (k : ℕ). get_or g (d + k) 0) (sym e) in
      sym p ∙ common-ends (drop d f) (drop d g) (p ∙ h ∙ sym q)

  behind : (directory : Bool) → n ≡ in_common (drop d f) (drop d g)
      → follows directory (up_to_zero (drop (d + n) f)) (up_to_zero (drop (d + n) g)) ≡ follows directory (up_to_zero (drop d f)) (up_to_zero (drop d g))
  behind directory e =
      let m : ℕ = in_common (drop d f) (drop d g) in
      let k : d + n ≡ d + m = ap (λ (j : ℕ). d + j) e in
      ap₂ (λ (p q : List ℕ). follows directory (up_to_zero p) (up_to_zero q))
      (ap (λ (j : ℕ). drop j f) k ∙ sym (drop-drop m d f)) (ap (λ (j : ℕ). drop j g) k ∙ sym (drop-drop m d g))
      ∙ common-behind directory (drop d f) (drop d g)

pub slice_bounds-in_common-count : goal.slice_bounds-in_common-count
slice_bounds-in_common-count c = (names-inside _ _ _ c.requires).0

pub slice_bounds-in_common-count-2 : goal.slice_bounds-in_common-count-2
slice_bounds-in_common-count-2 c = (names-inside _ _ _ c.requires).1

pub slice_bounds-in_common-start : goal.slice_bounds-in_common-start
slice_bounds-in_common-start c = search (rules, (names-inside _ _ _ c.requires).0)

pub slice_bounds-in_common-start-2 : goal.slice_bounds-in_common-start-2
slice_bounds-in_common-start-2 c = search (rules, (names-inside _ _ _ c.requires).1)

-- the bytes that they have in common behind the first
count : (c : After-in_common) → let a = c.args in c.in_common.result ≡ in_common (drop a.from a.a.now) (drop a.from a.b.now)
count c = rw (take_rest c.args.a.now c.args.from, take_rest c.args.b.now c.args.from) at c.in_common.ensures

pub overflow_add-i : goal.overflow_add-i
overflow_add-i c =
    let a = c.args in
    search (rules, inside a.from a.a.now a.b.now _ (names-inside _ _ _ c.requires).0 (count (goal.at.overflow_add-i c).After-in_common))

-- both names from where they part
together : (c : After-in_common) → let a = c.args in let i = a.from + c.in_common.result in
    follows a.directory (up_to_zero (drop i a.a.now)) (up_to_zero (drop i a.b.now)) ≡ follows a.directory (up_to_zero a.a.now) (up_to_zero a.b.now)
together c = let a = c.args in behind a.from a.a.now a.b.now _ a.directory (count c) ∙ names-behind _ _ _ _ c.requires

pub returns-then-x-y : goal.returns-then-x-y
returns-then-x-y c =
    let a = c.args in
    let n = count (goal.at.returns-then-x-y c).After-in_common in
    let i = a.from + c.in_common.result in
    let z = c.byte_at-x.ensures ∙ ends a.from a.a.now a.b.now _ n (sym c.byte_at-x.ensures ∙ c.if-x-y.true ∙ c.byte_at-y.ensures) in
    both_end _ _ _ _ _ c.if-x-y.true z
    ∙ ap₂ (follows a.directory) (starts-as a.a.now i _ c.byte_at-x.ensures) (starts-as a.b.now i _ c.byte_at-y.ensures)
    ∙ together (goal.at.returns-then-x-y c).After-in_common

pub parted-requires : goal.parted-requires
parted-requires c = (c.byte_at-y.ensures, ne_eqb _ _ c.if-x-y.false)

pub returns : goal.returns
returns c =
    let a = c.args in
    let i = a.from + c.in_common.result in
    c.parted.ensures _ ∙ ap (λ (p : List ℕ). follows a.directory p (up_to_zero (drop i a.b.now))) (starts-as a.a.now i _ c.byte_at-x.ensures)
    ∙ together (goal.at.returns c).After-in_common
