use mathlib.Core.Path.{sym, ap, ◌∙◌}
use Rattle.rules.specs.Writing.Laws.{wrote}
use Rattle.rules.specs.Lists.Laws.{pick_true, pick-false}
use Rattle.rules.specs.Writing.{deleted}
use Rattle.slots.specs.View.{head_view}
use Rattle.retyping.specs.Planned.{as-kind}
use Rattle.erasing.proofs.plan_found.Goals as goal

pub returns-then-keeps_deleted : goal.returns-then-keeps_deleted
unfolding deleted head_view
returns-then-keeps_deleted c =
    let keeps = sym c.keeps_deleted.ensures ∙ c.if-keeps_deleted.true in
    λ call is. c.at_slot.ensures call (as-kind _ _ _ _ _ _ c.deleted_kind.ensures (λ z. is z ∙ ap wrote (pick_true _ _ keeps)))

pub returns : goal.returns
unfolding deleted head_view
returns c =
    let loses = sym c.keeps_deleted.ensures ∙ c.if-keeps_deleted.false in
    λ call is. c.clear_at.ensures call (λ z. is z ∙ ap wrote (pick-false _ _ loses))
