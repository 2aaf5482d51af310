use mathlib.Core.Path.{sym, ◌∙◌}
use native.Mathlib.Omega.{arith}
use Rattle.index.specs.Steps.{onward}
use Rattle.index.proofs.single.Goals as goal

pub returns : goal.returns
returns c =
    let h = c.step_over.ensures.here in
    onward c.args.img.now c.args.c c.requires.0 c.requires.1 1 (sym c.requires.2) _ c.step_over.ensures.rest (omega arith) _ h.0 h.1 h.2 (h.3 ∙ c.kind_at.ensures)
