use mathlib.Core.Path.{sym, ◌∙◌}
use native.Mathlib.Omega.{arith}
use Rattle.names.specs.Texts.{begun-ascii, begun-none, begun-beyond}
use Rattle.names.proofs.begun.Goals as goal

pub returns-then-is_ascii : goal.returns-then-is_ascii
returns-then-is_ascii c bs = begun-ascii _ bs (sym c.is_ascii.ensures ∙ c.if-is_ascii.true)

pub returns-in_default : goal.returns-in_default
returns-in_default c bs = begun-none _ bs (omega arith) (sym c.is_ascii.ensures ∙ c.if-is_ascii.false)

pub returns-in_default-2 : goal.returns-in_default-2
returns-in_default-2 c bs = begun-beyond _ bs (omega arith)
