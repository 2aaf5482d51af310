use mathlib.Core.Path.{◌≡◌, sym, ◌∙◌}
use mathlib.Core.Bool.{true, false}
use native.Mathlib.Omega.{arith}
use Rattle.rules.specs.Index.{deleted_type}
use Rattle.rules.specs.Index.Items.{entry_type}
use Rattle.editions.specs.View.{edition_view}
use Rattle.slots.specs.Types.{step-one, step_gone, gone-stale, stale-keeps}
use Rattle.slots.proofs.slots_from.Goals as goal
use Rattle.slots.proofs.slots_from.Goals.{Else-not-is_deleted}

pub entry_slots-requires : goal.entry_slots-requires
entry_slots-requires c = (omega (arith, c.requires.0, c.requires.1), c.requires.2, sym c.is_entry.ensures ∙ c.if-is_entry.true)

pub returns-then-is_entry : goal.returns-then-is_entry
returns-then-is_entry c = (c.entry_slots.ensures.0 _, c.entry_slots.ensures.1)

pub returns-then-not-is_deleted : goal.returns-then-not-is_deleted
returns-then-not-is_deleted c =
    (sym (step-one _ _ c.args.img.now _ _ c.requires.2 (sym c.is_entry.ensures ∙ c.if-is_entry.false) (sym c.is_deleted.ensures ∙ c.if-not-is_deleted.true)), omega arith)

-- a deleted run that is no entry
gone : (c : Else-not-is_deleted) → (entry_type (edition_view c.args.ed) c.args.kind ≡ false) × (deleted_type c.args.kind ≡ true)
gone c = (sym c.is_entry.ensures ∙ c.if-is_entry.false, sym c.is_deleted.ensures ∙ c.if-not-is_deleted.false)

pub stale_slots-requires : goal.stale_slots-requires
stale_slots-requires c =
    let g = gone c in
    (c.requires.0, c.requires.1, c.requires.2, c.requires.3, stale-keeps _ _ (gone-stale _ _ g.0 g.1))

pub returns : goal.returns
returns c =
    let g = gone (goal.at.returns c).Else-not-is_deleted in
    (c.stale_slots.ensures.0 ∙ sym (step_gone _ _ c.args.img.now _ _ c.requires.2 g.0 g.1), c.stale_slots.ensures.1)
