use Rattle.std.proofs.Common.{subst, refl, ◌≡◌, false}
use mathlib.Core.Bool.{not}
use Rattle.std.specs.Prelude.{nat_eq}
use Rattle.lines.specs.Feeding.{LastLine, last_empty, last_some}
use Rattle.lines.proofs.is_last.Goals as goal

pub returns-then-lines-ne0-clause-by_index : goal.returns-then-lines-ne0-clause-by_index
returns-then-lines-ne0-clause-by_index c p line h = last_some p _ line h _ c.if-lines-ne0.true

pub returns-else-lines-ne0-clause-by_index : goal.returns-else-lines-ne0-clause-by_index
returns-else-lines-ne0-clause-by_index c p line h =
    let e : false ≡ not (nat_eq c.args.lines.length 0) = rw c.if-lines-ne0.false refl in
    subst (λ b. LastLine c.args.lines.left b p) e (last_empty p _ line h _ c.if-lines-ne0.false)
