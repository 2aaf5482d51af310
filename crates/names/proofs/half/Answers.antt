use mathlib.Core.Path.{sym}
use borrow.Author.Tests.{lt-ltb, le-ltb}
use Rattle.rules.specs.Lists.Laws.{pick_true, pick-false}
use Rattle.names.proofs.half.Goals as goal

pub returns-then-b-lt64 : goal.returns-then-b-lt64
returns-then-b-lt64 c = sym (pick_true _ _ (lt-ltb _ _ c.if-b-lt64.true))

pub returns-else-b-lt64 : goal.returns-else-b-lt64
returns-else-b-lt64 c = sym (pick-false _ _ (le-ltb _ _ c.if-b-lt64.false))
