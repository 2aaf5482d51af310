use Prim.Native.Nat.{◌+◌}
use mathlib.Core.Path.{◌≡◌, ◌∙◌}
use borrow.Author.Tests.{not-true, not-false}
use native.Mathlib.Omega.{arith}
use Rattle.rules.specs.Comparing.{looked}
use Rattle.rules.specs.Comparing.Laws.{looked-most}
use Rattle.comparing.specs.Last.{no_place, compare-apart, compare-walked}
use Rattle.comparing.proofs.compare.Goals as goal
use Rattle.comparing.proofs.compare.Goals.{After-walk-rest}

pub returns-then-name-path : goal.returns-then-name-path
returns-then-name-path c =
    let n = no_place c.args.end c.args.name.now c.args.path.now (omega arith) in
    record { same_value = c.apart.ensures.0 ∙ n.0; counted = c.apart.ensures.1 ∙ n.1 }

pub returns-then-not-test : goal.returns-then-not-test
returns-then-not-test c =
    let t = c.compare_last-test.ensures in
    let a = compare-apart c.args.name.now c.args.path.now _ _ t.same_value t.counted (not-true _ c.if-not-test.true) c.args.end in
    record { same_value = a.0; counted = a.1 }

count : (c : After-walk-rest) →
    let a = c.args in
    c.compare_last-test.result.looked + c.walk-rest.result.looked ≡ looked a.name.now a.path.now
count c =
    let t = c.compare_last-test.ensures in
    compare-walked _ _ _ _ t.same_value t.counted (not-false _ c.if-not-test.false) _ c.walk-rest.ensures.counted

pub overflow_add-result : goal.overflow_add-result
overflow_add-result c = record { fits = omega (arith, count (goal.at.overflow_add-result c).After-walk-rest, c.requires, looked-most c.args.name.now c.args.path.now) }

pub returns : goal.returns
returns c =
    record {
      same_value = c.walk-rest.ensures.same_value;
      counted = count (goal.at.returns c).After-walk-rest;
    }
