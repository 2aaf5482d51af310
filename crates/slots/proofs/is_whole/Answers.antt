use mathlib.Core.Path.{sym, ◌∙◌}
use native.Mathlib.Omega.{arith}
use borrow.Author.Tests.{lt-leb}
use Rattle.rules.specs.Index.Items.{whole_sum}
use Rattle.rules.specs.Index.Frame.{run-unfit}
use Rattle.sums.specs.Summed.{summed-here}
use Rattle.slots.proofs.is_whole.Goals as goal

pub is_good-requires : goal.is_good-requires
is_good-requires c = omega (arith, c.if-slots-left.true, c.requires.2.room)

pub returns-then-slots-left : goal.returns-then-slots-left
returns-then-slots-left c =
    let n = c.slots_at-slots in
    c.is_good.ensures ∙ summed-here _ _ _ _ _ _ c.requires.2 _ c.if-slots-left.true ∙ sym (whole_sum _ _ _ _ n.ensures.0 (omega (arith, c.if-slots-left.true)))

pub returns-else-slots-left : goal.returns-else-slots-left
returns-else-slots-left c = lt-leb _ _ c.if-slots-left.false ∙ sym (run-unfit _ _ _ (omega (arith, c.if-slots-left.false, c.slots_at-slots.ensures)))
