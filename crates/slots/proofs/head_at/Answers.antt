use mathlib.Core.Path.{refl, sym, ap, ◌∙◌}
use native.Mathlib.Omega.{arith}
use Rattle.rules.specs.Fields.{le}
use Rattle.rules.specs.Index.{run_type}
use Rattle.rules.specs.Index.Items.{head-run, type-drop}
use Rattle.slots.specs.View.{unusable-view}
use Rattle.slots.proofs.head_at.Goals as goal

pub run_head-requires : goal.run_head-requires
run_head-requires c = (c.requires, sym (ap run_type c.kind_at.ensures) ∙ sym c.is_run.ensures ∙ c.if-is_run.true)

pub returns-then-is_run : goal.returns-then-is_run
returns-then-is_run c =
    let a = c.args in
    let t = sym (ap run_type c.kind_at.ensures) ∙ sym c.is_run.ensures ∙ c.if-is_run.true in
    record {
      result_value = c.run_head.ensures.result_value ∙ sym (head-run _ a.slot.0 _ (ap run_type (type-drop a.img.now a.at.0) ∙ t));
      place = c.run_head.ensures.place;
    }

pub returns : goal.returns
returns c =
    let a = c.args in
    let s = a.img.now in
    let t = sym (ap run_type c.kind_at.ensures) ∙ sym c.is_run.ensures ∙ c.if-is_run.false in record {
      result_value = unusable-view _ s a.at.0 a.slot.0 _ refl refl refl t refl refl refl
          (c.at.ensures ∙ c.le64_at.ensures ∙ ap (le 8 s) c.after.ensures)
          (c.at-2.ensures ∙ c.le64_at-2.ensures ∙ ap (le 8 s) c.after-2.ensures) refl;
      place = (refl, refl, omega arith);
    }
