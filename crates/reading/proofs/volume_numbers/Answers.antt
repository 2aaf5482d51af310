use mathlib.Core.Path.{refl}
use mir.Syntax.{w64}
use mir.ValLaws.{to_z-of_z}
use Rattle.rules.specs.Reading.{volume_numbers}
use Rattle.reading.proofs.volume_numbers.Goals as goal

pub returns : goal.returns
unfolding volume_numbers
returns c =
    let f = c.from_bits in
    let h = c.from_bits-2 in
    (refl, rw (to_z-of_z w64 f.result (record { sfits = f.type_inv }), f.ensures, to_z-of_z w64 h.result (record { sfits = h.type_inv }), h.ensures, c.volume_stamp.ensures, c.block_length.ensures.0, c.version.ensures, c.requires.2))
