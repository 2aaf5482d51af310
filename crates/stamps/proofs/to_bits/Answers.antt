use mathlib.Core.Path.{◌∙◌}
use mir.Syntax.{w64}
use mir.ValLaws.{to_z-of_z}
use Rattle.stamps.proofs.Signed.{bits-are}
use Rattle.stamps.proofs.to_bits.Goals as goal

pub returns : goal.returns
returns c =
    let z = c.args.z in
    (rw (to_z-of_z w64 z c.ranges.z) at c.cast_unsigned.ensures) ∙ bits-are z c.ranges.z
