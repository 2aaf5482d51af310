use Prim.Native.Nat.{ℕ}
use lib.ListN.{take}
use mathlib.Core.Path.{sym, ap, ◌∙◌}
use lib.Seq.{length-take-le}
use Rattle.rules.specs.Fields.Laws.{up_to_zero-take}
use Rattle.rules.specs.Fields.{up_to_zero}
use Rattle.slots.specs.View.{head_view, field_fits, path-is}
use Rattle.slots.proofs.path_of.Goals as goal

pub name_field-field-requires : goal.name_field-field-requires
name_field-field-requires c = field_fits _ c.args.img.now _ _ _ c.requires.0 c.requires.1

pub slice_bounds-result-end : goal.slice_bounds-result-end
slice_bounds-result-end c = sym (length-take-le _ _ c.zero_at-n.ensures.1)

pub returns : goal.returns
unfolding head_view
returns c =
    let f = c.name_field-field.result.now in
    ap (λ (n : ℕ). take n f) c.zero_at-n.ensures.0 ∙ sym (up_to_zero-take f)
    ∙ ap up_to_zero c.name_field-field.ensures
    ∙ sym (path-is _ c.args.img.now _ _ _ c.requires.0 c.requires.1)
