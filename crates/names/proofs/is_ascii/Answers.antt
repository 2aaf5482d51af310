use mathlib.Core.Path.{sym, ◌∙◌}
use borrow.Author.Tests.{le-ltb}
use Rattle.names.specs.Masks.{name-bits}
use Rattle.names.specs.Texts.{ascii-low, ascii-high}
use Rattle.names.proofs.is_ascii.Goals as goal

pub returns-then-b-lt128 : goal.returns-then-b-lt128
returns-then-b-lt128 c = c.bit.ensures ∙ name-bits _ c.if-b-lt128.true ∙ ascii-low _ c.if-b-lt128.true

pub returns-else-b-lt128 : goal.returns-else-b-lt128
returns-else-b-lt128 c = le-ltb _ _ c.if-b-lt128.false ∙ sym (ascii-high _ c.if-b-lt128.false)
