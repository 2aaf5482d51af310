use mathlib.Core.Path.{◌∙◌}
use mir.Syntax.{w64}
use mir.ValLaws.{to_z-of_z}
use Rattle.stamps.proofs.Signed.{signed-is}
use Rattle.stamps.proofs.from_bits.Goals as goal

pub returns : goal.returns
returns c =
    let z = c.cast_signed in
    to_z-of_z w64 z.result (record { sfits = z.type_inv }) ∙ z.ensures ∙ signed-is c.args.x c.ranges.x
