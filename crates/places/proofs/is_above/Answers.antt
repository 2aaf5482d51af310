use mathlib.Core.Path.{ap, ◌∙◌}
use Rattle.rules.specs.Fields.{up_to_zero}
use Rattle.rules.specs.Names.{is_below}
use Rattle.slots.specs.View.{field_fits}
use Rattle.places.specs.Cut.{directory-run, not-directory, directory-above}
use Rattle.places.proofs.is_above.Goals as goal

pub returns-then-e-ne-DIRECTORY : goal.returns-then-e-ne-DIRECTORY
returns-then-e-ne-DIRECTORY c = not-directory _ _ _ c.if-e-ne-DIRECTORY.true

pub name_field-requires : goal.name_field-requires
name_field-requires c = field_fits _ c.args.img.now _ _ _ c.requires (directory-run _ c.if-e-ne-DIRECTORY.false)

pub returns : goal.returns
returns c =
    c.leads_to.ensures ∙ ap (λ x. is_below (up_to_zero x) c.args.path.now) c.name_field.ensures ∙ directory-above _ _ _ c.requires c.if-e-ne-DIRECTORY.false
