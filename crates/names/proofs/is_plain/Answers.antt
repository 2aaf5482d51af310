use mathlib.Core.Path.{◌∙◌}
use borrow.Author.Tests.{le-ltb}
use Rattle.names.specs.Masks.{part-bits}
use Rattle.names.specs.Texts.{ascii-low, ascii-high}
use Rattle.names.proofs.is_plain.Goals as goal

pub returns-then-b-lt128 : goal.returns-then-b-lt128
returns-then-b-lt128 c = c.bit.ensures ∙ part-bits _ c.if-b-lt128.true ∙ rw (ascii-low _ c.if-b-lt128.true)

pub returns-else-b-lt128 : goal.returns-else-b-lt128
returns-else-b-lt128 c = rw (ascii-high _ c.if-b-lt128.false) (le-ltb _ _ c.if-b-lt128.false)
