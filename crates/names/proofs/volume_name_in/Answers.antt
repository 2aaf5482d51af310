use mathlib.Core.Path.{◌≡◌, refl}
use native.Mathlib.Omega.{arith}
use borrow.Author.Rules.{rules}
use lib.ListN.{length}
use Rattle.rules.specs.Fields.Laws.{zero-last, zero-past}
use Rattle.names.specs.Texts.{from_start}
use Rattle.names.specs.Reader.{slash-found, name-turn, name-ended}
use Rattle.names.proofs.volume_name_in.Goals as goal

pub loop-i-init : goal.loop-i-init
loop-i-init c = (search rules, omega arith, from_start _ _ _, refl)

pub returns-then-b-eq0 : goal.returns-then-b-eq0
returns-then-b-eq0 c = name-ended _ _ _ c.loop-i.invariant (zero-last _ _ c.loop-i-test.true c.if-b-eq0.true) _ c.ended.ensures

pub returns-then-b-eq47 : goal.returns-then-b-eq47
returns-then-b-eq47 c = slash-found _ _ _ c.loop-i.invariant c.loop-i-test.true c.if-b-eq0.false c.if-b-eq47.true

pub loop-i-preserved : goal.loop-i-preserved
loop-i-preserved c = name-turn _ _ _ c.loop-i.invariant c.loop-i-test.true c.if-b-eq0.false c.if-b-eq47.false _ c.step-reader.ensures

pub returns : goal.returns
returns c =
    let e : c.loop-i.i ≡ length c.args.s.now = omega arith in
    name-ended _ _ _ c.loop-i.invariant (zero-past _ _ c.loop-i-test.false) _ (rw e c.ended-2.ensures)
