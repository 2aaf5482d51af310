use mathlib.Core.Path.{sym, ◌∙◌}
use native.Mathlib.Omega.{arith}
use lib.ListN.{drop}
use Rattle.rules.specs.Index.Items.{whole-fits}
use Rattle.index.specs.View.{run-broken, run-nameless, run-named}
use Rattle.index.proofs.run_step.Goals as goal

pub returns-then-not-is_whole : goal.returns-then-not-is_whole
returns-then-not-is_whole c = sym (run-broken _ _ _ (sym c.is_whole.ensures ∙ c.if-not-is_whole.true))

pub name_field-requires : goal.name_field-requires
name_field-requires c =
    let w = sym c.is_whole.ensures ∙ c.if-not-is_whole.false in
    omega (arith, (whole-fits _ c.args.left (drop c.args.at.0 c.args.img.now) w).0, c.requires.1)

pub returns-then-not-path_field_good : goal.returns-then-not-path_field_good
returns-then-not-path_field_good c = sym (run-nameless _ _ _ _ _ c.path_field_good.ensures c.name_field.ensures (c.if-not-path_field_good.true))

pub returns : goal.returns
returns c =
    let w = sym c.is_whole.ensures ∙ c.if-not-is_whole.false in
    let count = c.slots_at.ensures.0 in
    (run-named _ _ _ _ _ c.path_field_good.ensures c.name_field.ensures (c.if-not-path_field_good.false) w _ count, c.slots_at.ensures.1, omega (arith, count, (whole-fits _ _ _ w).0))
