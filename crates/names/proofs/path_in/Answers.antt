use mathlib.Core.Path.{◌≡◌, refl, sym, ap, ◌∙◌}
use native.Mathlib.Omega.{arith}
use borrow.Author.Rules.{rules}
use Rattle.rules.specs.Fields.Laws.{zero-last, zero-past}
use Rattle.names.specs.Texts.{from_start}
use Rattle.names.specs.Reader.{plain_turn, plain-run, other-turn, bad-part, path-ended}
use Rattle.names.specs.View.{part_view, stepped_view, part-below}
use Rattle.names.proofs.path_in.Goals as goal

pub loop-i-init : goal.loop-i-init
loop-i-init c = (search rules, omega arith, (omega arith, from_start _ _ _, refl))

pub loop-i-preserved-then-is_plain : goal.loop-i-preserved-then-is_plain
loop-i-preserved-then-is_plain c =
    let first = plain_turn _ _ _ _ c.loop-i.invariant c.loop-i-test.true c.if-reader-eq0.true (sym c.is_plain.ensures ∙ c.if-is_plain.true) in
    let run = c.plain_from-i.ensures in
    plain-run _ _ c.if-reader-eq0.true _ run.1 _ run.0 run.2 first

pub returns-then-b-eq0 : goal.returns-then-b-eq0
returns-then-b-eq0 c = path-ended _ _ _ _ c.loop-i.invariant (zero-last _ _ c.loop-i-test.true c.if-b-eq0.true) _ c.ended.ensures

pub returns-in_err-part : goal.returns-in_err-part
returns-in_err-part c =
    rw c.from_residual.ensures
    (bad-part _ _ _ _ c.loop-i.invariant c.loop-i-test.true c.if-b-eq0.false _ c.part_step.ensures (ap stepped_view c.in_err-part.was))

pub loop-i-preserved : goal.loop-i-preserved
loop-i-preserved c =
    let p = c.in_ok-part.part in
    other-turn _ _ _ _ c.loop-i.invariant c.loop-i-test.true c.if-b-eq0.false (part_view p)
    (sym (ap stepped_view c.in_ok-part.was) ∙ c.part_step.ensures) (λ e. omega (arith, part-below p, e)) _ c.step-reader.ensures

pub returns : goal.returns
returns c = path-ended _ _ _ _ c.loop-i.invariant (zero-past _ _ c.loop-i-test.false) _ c.ended-2.ensures
