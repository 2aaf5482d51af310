use native.Mathlib.Omega.{arith}
use lib.ListN.{length}
use mathlib.Core.Path.{ap, ◌∙◌}
use Rattle.rules.specs.Comparing.{looked}
use Rattle.comparing.specs.Walk.{is_then}
use Rattle.slots.specs.View.{field_fits, name-short}
use Rattle.paths.proofs.compare_name.Goals as goal

pub name_field-requires : goal.name_field-requires
name_field-requires c = field_fits _ c.args.img.now _ _ _ c.requires.0 c.requires.1

pub compare-requires : goal.compare-requires
compare-requires c = omega (arith, ap length c.name_field.ensures, name-short _ c.args.img.now _ _ _ c.requires.0 c.requires.1)

pub returns : goal.returns
returns c =
    let a = c.args in
    let f = c.name_field.ensures in
    record {
      same_value = c.compare.ensures.same_value ∙ ap (λ x. is_then a.end x a.path.now) f;
      counted = c.compare.ensures.counted ∙ ap (λ x. looked x a.path.now) f;
    }
