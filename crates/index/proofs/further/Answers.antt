use mathlib.Core.Path.{◌∙◌}
use native.Mathlib.Omega.{arith}
use Rattle.index.specs.Steps.{step_left, onward}
use Rattle.index.proofs.further.Goals as goal

pub slots_from-n-requires : goal.slots_from-n-requires
slots_from-n-requires c = (c.requires.1, c.requires.0.inside.fits, c.kind_at-kind.ensures, c.requires.2)

pub step_over-requires : goal.step_over-requires
step_over-requires c =
    let i = c.requires.0.inside in
    (omega (arith, c.slots_from-n.ensures.0, step_left c.args.img.now c.args.c c.requires.0 c.requires.1), omega (arith, i.fits, i.short), i.numbers)

pub returns : goal.returns
returns c =
    let h = c.step_over.ensures.here in
    onward c.args.img.now c.args.c c.requires.0 c.requires.1 _ c.slots_from-n.ensures.0 _ c.step_over.ensures.rest c.slots_from-n.ensures.1 _ h.0 h.1 h.2 (h.3 ∙ c.kind_at-kind.ensures)
