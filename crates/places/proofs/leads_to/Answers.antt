use Rattle.std.proofs.Common.{rules, length-append, ℕ, ◌≤◌, ◌<◌, ◌≡◌, length, get_or, eqb, List, Bor}
use Rattle.std.specs.Prelude.{min, Option, None, Some, MatchOption}
use Rattle.std.specs.List.{HoldsAt}
use Rattle.std.specs.Option.{option_eq}
use mathlib.Core.Path.{refl, ◌∙◌, sym}
use native.Mathlib.Omega.{arith}
use Rattle.std.proofs.lemmas.Slice.Zip.{zip_turn, zip_end}
use Rattle.rules.specs.Fields.{up_to_zero}
use Rattle.rules.specs.Names.{slash, is_below}
use Rattle.places.specs.Leads.{LeadsAt, leads-out, leads-end, leads-zero, leads-apart, leads-next}
use Rattle.places.proofs.leads_to.Goals as goal
use Rattle.places.proofs.leads_to.Goals.{In-Some}

-- the bytes of this turn
turn : (c : In-Some) → let k = length c.loop-x.yielded in let a = c.args in
    (k < length a.name.now) × (k < length a.path.now) × ((d : ℕ) → c.in-Some.field-0-0.now ≡ get_or a.name.now k d) × ((d : ℕ) → c.in-Some.field-0-1.now ≡ get_or a.path.now k d)
turn c = zip_turn c.args.name.now c.args.path.now c.loop-x.yielded _ _ c.next.new.self _ (search rules) (search rules) c.loop-x.yielded_by _ c.in-Some.is c.next.ensures.steps

-- one of them has no more
ended : (name path : List ℕ) (n : ℕ) → n ≡ min (length name) (length path) → LeadsAt name path n → (b : Bor ℕ) → b.now ≡ slash → (r : Option (Bor ℕ))
    → MatchOption r (length path ≤ length name) (λ x. (length name < length path) × HoldsAt (λ y. x.now ≡ y) path (length name))
    → option_eq (λ x y. eqb x.now y.now) r (Some b) ≡ is_below (up_to_zero name) path
ended name path n e l b s None h = leads-out name path n l (omega arith)
ended name path n e l b s (Some x) h =
    let k : n ≡ length name = omega (arith, h.0) in
    rw (s, h.1 0, ← k) (leads-end name path n l (omega (arith, h.0)) (omega arith))

pub returns : goal.returns
returns c =
    let l = c.loop-x in
    let e = zip_end c.args.name.now c.args.path.now l.yielded _ _ c.next.new.self _ (search rules) (search rules) l.yielded_by c.in-None.is c.next.ensures.steps in
    c.eq.ensures ∙ ended c.args.name.now c.args.path.now _ e l.invariant _ refl _ c.get.ensures.lookup.3

pub returns-then-x-eq0 : goal.returns-then-x-eq0
returns-then-x-eq0 c =
    let t = turn (goal.at.returns-then-x-eq0 c).In-Some in
    rw (t.3 0) (leads-zero _ _ _ c.loop-x.invariant t.1 t.0 (sym (t.2 0) ∙ c.if-x-eq0.true))

pub returns-then-x-y : goal.returns-then-x-y
returns-then-x-y c =
    let t = turn (goal.at.returns-then-x-y c).In-Some in
    leads-apart _ _ _ c.loop-x.invariant t.1 t.0 (λ z. c.if-x-eq0.false (t.2 0 ∙ z)) (λ e. c.if-x-y.true (t.2 0 ∙ e ∙ sym (t.3 0)))

pub loop-x-preserved : goal.loop-x-preserved
loop-x-preserved c =
    let t = turn (goal.at.loop-x-preserved c).In-Some in
    rw (length-append) (leads-next _ _ _ c.loop-x.invariant t.1 t.0 (λ z. c.if-x-eq0.false (t.2 0 ∙ z)) (sym (t.2 0) ∙ c.if-x-y.false ∙ t.3 0))
