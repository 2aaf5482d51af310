use mathlib.Core.Path.{sym, ◌∙◌}
use native.Mathlib.Omega.{arith}
use lib.ListN.{length}
use Rattle.names.specs.Reader.{plain_more}
use Rattle.names.proofs.plain_from.Goals as goal

pub loop-i-init : goal.loop-i-init
loop-i-init c = λ j k l. absurd (omega (arith, k, l))

pub loop-i-preserved : goal.loop-i-preserved
loop-i-preserved c = plain_more c.args.s.now _ _ c.loop-i.invariant (sym c.is_plain.ensures ∙ c.if-not-is_plain.false)
