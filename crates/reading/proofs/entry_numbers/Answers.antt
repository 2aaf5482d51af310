use mathlib.Core.Path.{refl}
use mir.Syntax.{w64}
use mir.ValLaws.{to_z-of_z}
use Rattle.rules.specs.Outcome.{numbers_of}
use Rattle.slots.specs.View.{head_view}
use Rattle.reading.specs.Found.{end-given}
use Rattle.reading.proofs.entry_numbers.Goals as goal

pub returns : goal.returns
unfolding numbers_of head_view
returns c =
    let f = c.from_bits in
    (refl, λ s. rw (to_z-of_z w64 f.result (record { sfits = f.type_inv }), f.ensures, end-given s c.args.h, c.number-3.ensures, c.number-2.ensures, c.number.ensures))
