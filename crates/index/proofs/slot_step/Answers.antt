use mathlib.Core.Path.{sym, ◌∙◌}
use native.Mathlib.Omega.{arith}
use Rattle.index.specs.View.{step-stale, step_run, step-unusable, step-stray, step-unused, step-same}
use lib.ListN.{drop}
use Rattle.rules.specs.Index.Walk.{stale-pos}
use Rattle.editions.specs.View.{edition_view}
use Rattle.sums.specs.Summed.{summed-on}
use Rattle.slots.specs.Types.{stale-keeps}
use Rattle.index.proofs.slot_step.Goals as goal

pub stale_slots-requires : goal.stale_slots-requires
stale_slots-requires c =
    let p = c.requires in
    (p.0, p.1, c.kind_at-kind.ensures, p.2, stale-keeps _ _ (sym c.is_stale.ensures ∙ c.if-is_stale.true))

pub returns-then-is_stale : goal.returns-then-is_stale
returns-then-is_stale c =
    let a = c.args in
    (c.stale_slots.ensures.0 ∙ step-stale _ a.img.now a.at.0 a.left _ c.kind_at-kind.ensures (sym c.is_stale.ensures ∙ c.if-is_stale.true), omega (arith, c.stale_slots.ensures.0, stale-pos (edition_view a.ed) a.left (drop a.at.0 a.img.now)), c.stale_slots.ensures.2)

pub returns-then-is_run : goal.returns-then-is_run
returns-then-is_run c =
    let a = c.args in
    step-same _ _ _ _ _ (omega arith) (step_run _ a.img.now a.at.0 a.left _ c.kind_at-kind.ensures (sym c.is_stale.ensures ∙ c.if-is_stale.false) (sym c.is_run.ensures ∙ c.if-is_run.true)) c.run_step.ensures

pub unusable_step-requires : goal.unusable_step-requires
unusable_step-requires c = summed-on _ _ _ _ _ _ c.requires.2 _ _ 1 0 (omega arith) (omega arith) (omega (arith, c.requires.0))

pub returns-then-kind-eq-UNUSABLE : goal.returns-then-kind-eq-UNUSABLE
returns-then-kind-eq-UNUSABLE c =
    let a = c.args in
    step-same _ _ _ _ _ (omega (arith, c.requires.0)) (step-unusable _ a.img.now a.at.0 a.left _ c.kind_at-kind.ensures (sym c.is_stale.ensures ∙ c.if-is_stale.false) (sym c.is_run.ensures ∙ c.if-is_run.false) c.if-kind-eq-UNUSABLE.true) c.unusable_step.ensures

pub returns-then-is_stray : goal.returns-then-is_stray
returns-then-is_stray c =
    let a = c.args in
    sym (step-stray _ a.img.now a.at.0 a.left _ c.kind_at-kind.ensures (sym c.is_stale.ensures ∙ c.if-is_stale.false) (sym c.is_run.ensures ∙ c.if-is_run.false) c.if-kind-eq-UNUSABLE.false (sym c.is_stray.ensures ∙ c.if-is_stray.true))

pub returns : goal.returns
returns c =
    let a = c.args in
    (step-unused _ a.img.now a.at.0 a.left _ c.kind_at-kind.ensures (sym c.is_stale.ensures ∙ c.if-is_stale.false) (sym c.is_run.ensures ∙ c.if-is_run.false) c.if-kind-eq-UNUSABLE.false (sym c.is_stray.ensures ∙ c.if-is_stray.false), omega arith, omega (arith, c.requires.0))
