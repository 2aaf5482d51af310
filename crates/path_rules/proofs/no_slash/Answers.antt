use mathlib.Core.Path.{sym, ap, ◌∙◌}
use native.Mathlib.Omega.{arith}
use Rattle.ordering.specs.Paths.{no_slash}
use Rattle.ordering.specs.Starts.{starts}
use Rattle.path_rules.specs.Names.{slash-end, slash-here, slash-later, slash-past}
use Rattle.path_rules.proofs.no_slash.Goals as goal

pub returns-then-b-eq0 : goal.returns-then-b-eq0
returns-then-b-eq0 c = slash-end _ _ c.if-b-eq0.true ∙ sym (ap no_slash (starts c.args.name.now c.loop-b.b-index)) ∙ c.loop-b.invariant

pub returns-then-b-eq47 : goal.returns-then-b-eq47
returns-then-b-eq47 c = slash-here _ _ c.if-b-eq47.true ∙ sym (ap no_slash (starts c.args.name.now c.loop-b.b-index)) ∙ c.loop-b.invariant

pub loop-b-preserved : goal.loop-b-preserved
loop-b-preserved c = slash-later _ _ c.if-b-eq0.false c.if-b-eq47.false ∙ sym (ap no_slash (starts c.args.name.now c.loop-b.b-index)) ∙ c.loop-b.invariant

pub returns : goal.returns
returns c = slash-past c.args.name.now c.loop-b.b-index (omega arith) ∙ c.loop-b.invariant
