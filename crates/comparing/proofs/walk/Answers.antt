use Rattle.std.specs.Prelude.{◌≡◌, nat_eq}
use Rattle.std.proofs.Common.{rules, arith, sym, ap, ◌∙◌}
use borrow.Author.Tests.{tests}
use Rattle.std.proofs.lemmas.Iterator.{YieldsList-from_slice, YieldsList-from_zip}
use Rattle.std.proofs.lemmas.Iterator.Search.{position_from_yields_List}
use Rattle.comparing.specs.Walk.{is_stop, first_stop, stop-front, rest-first, first-stop-at, first-stop-none, walked-to-stop, walked-to-behind, walked-to-out}
use Rattle.comparing.proofs.walk.Goals as goal
use Rattle.comparing.proofs.walk.Goals.{After-position-stop}

-- where the walk stops
stop : (c : After-position-stop) → c.position-stop.result ≡ first_stop c.args.name.now c.args.path.now
stop c =
    position_from_yields_List is_stop c.position-stop.new.self _ c.position-stop.result c.position-stop.ensures.ran (YieldsList-from_zip (YieldsList-from_slice c.split_at.result.0.now cc) (YieldsList-from_slice c.args.path.now cc)) (λ x b q k. search (rules, tests))
    ∙ stop-front c.args.name.now c.args.path.now c.split_at.result.0.now c.split_at.ensures.front

pub returns-in-Some : goal.returns-in-Some
returns-in-Some c =
    let k = first-stop-at c.args.end c.args.name.now c.args.path.now c.requires _ (sym (stop (goal.at.returns-in-Some c).After-position-stop) ∙ c.in-Some.is) in
    let w = walked-to-stop _ _ _ _ k.2 (omega (arith, k.0)) k.0 k.1 in
    record { same_value = c.apart.ensures.0 ∙ w.0; counted = c.apart.ensures.1 ∙ w.1 }

pub returns-in-Some-first : goal.returns-in-Some-first
returns-in-Some-first c =
    let k = first-stop-none c.args.end c.args.name.now c.args.path.now c.requires (sym (stop (goal.at.returns-in-Some-first c).After-position-stop) ∙ c.in_default.is) in
    let l = c.in-Some-first.ensures.item in
    let w = walked-to-behind _ _ _ _ k (omega (arith, l.3.0, c.split_at.ensures.back_len)) (omega arith) in
    record { same_value = ap (λ b. nat_eq b c.args.end) (l.3.1 0 ∙ rest-first c.args.name.now c.args.path.now _ c.split_at.ensures.back) ∙ w.0; counted = w.1 }

pub returns-in-None : goal.returns-in-None
returns-in-None c =
    let k = first-stop-none c.args.end c.args.name.now c.args.path.now c.requires (sym (stop (goal.at.returns-in-None c).After-position-stop) ∙ c.in_default.is) in
    let w = walked-to-out _ _ _ _ k (omega (arith, c.in-None.ensures.item.3, c.split_at.ensures.back_len)) in
    record { same_value = c.apart-in-None.ensures.0 ∙ w.0; counted = c.apart-in-None.ensures.1 ∙ w.1 }
