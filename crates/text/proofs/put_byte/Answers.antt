use mathlib.Core.Path.{refl, sym, ◌∙◌}
use mathlib.Core.List.{[]}
use Rattle.rules.specs.Fields.Laws.{splice-cons, splice-nil}
use Rattle.text.proofs.put_byte.Goals as goal

pub returns : goal.returns
returns c =
    let a = c.args in
    (sym (splice-cons a.out.now a.at a.b [] c.requires ∙ splice-nil _ _), refl)
